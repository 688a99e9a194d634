-- How a fold passes through a layer: the lowered cell is folded below, and what is found there is raised.
use Rattle.std.proofs.Common.{◌≡◌, ℕ, Bool, true, false, Ok, Err, Result, sym, refl, ap, ◌∙◌, subst, arith}
use Rattle.plane.specs.declared.cell.Cell.{Cell}
use Rattle.plane.specs.declared.fold.Extent.{Extent}
use Rattle.plane.specs.declared.fold.Fold.{Fold}
use Rattle.plane.specs.declared.fold.FoldRefused.{FoldRefused}
use Rattle.plane.specs.Cells.{Within, inside}
use Rattle.plane.specs.Meaning.{Meaning, Alike, extent_of, answer, folded}
use Rattle.plane.specs.Laws.{Lawful}
use Rattle.plane.proofs.Folding.{inside_within, within_inside}
use Rattle.layers.specs.declared.refused.LayerRefused.{LayerRefused}
use Rattle.layers.specs.declared.layer.Layer.{Layer}
use Rattle.layers.specs.declared.layer.Layer.TheVariants.{Shift, Recast, Counterchange}
use Rattle.layers.specs.Refusals.{verdict, judged, settled, roomy}
use Rattle.layers.specs.Shift.{short, moved_by, shift_extent}
use Rattle.layers.specs.Recast.{fair, recast_by, recast_extent}
use Rattle.layers.specs.Counterchange.{counterchanged}
use Rattle.layers.specs.Layer.{layer_extent, laid, layered, down, up, recounted, settled_extent, in_span, lower, lowered, raise, raised}
use Rattle.layers.specs.Judging.{granted, roomy_is, accepted}
use Rattle.layers.specs.Shifting.{shift_laws, into as shift-into}
use Rattle.layers.specs.Recasting.{recast_laws, into as recast-into}
use Rattle.layers.specs.Exchanging.{counterchange_laws}

-- every layer keeps the laws
pub layer_laws : (l : Layer) (m : Meaning) → Lawful m → Lawful (layered l m)
layer_laws (Shift w) m laws = shift_laws m laws w
layer_laws (Recast w) m laws = recast_laws m laws w
layer_laws Counterchange m laws = counterchange_laws m laws

-- an accepted layer means what the rules give
pub laid_alike : (l : Layer) (m : Meaning) (own : Extent) → Ok own ≡ layer_extent l (extent_of m) → Alike (layered l m) (laid l m)
laid_alike (Shift w) m own e = accepted (shift_extent w (extent_of m)) own e (moved_by w m) m
laid_alike (Recast w) m own e = accepted (recast_extent w (extent_of m)) own e (recast_by w m) m
laid_alike Counterchange m own e = accepted (Ok (extent_of m)) own e (counterchanged m) m

-- ---- extents
extent_settled : (fair : Bool) (e : Extent) (over below : Meaning) → extent_of over ≡ e → extent_of (settled (judged fair e) over below) ≡ settled_extent (judged fair e) (extent_of below)
extent_settled fair e over below is = go fair (roomy e)
  where
    go : (f r : Bool) → extent_of (settled (verdict f r e) over below) ≡ settled_extent (verdict f r e) (extent_of below)
    go false r = refl
    go true false = refl
    go true true = is

pub extent_layered : (l : Layer) (m : Meaning) → extent_of (layered l m) ≡ settled_extent (layer_extent l (extent_of m)) (extent_of m)
extent_layered (Shift w) m = extent_settled (short w) (extent_of (moved_by w m)) (moved_by w m) m refl
extent_layered (Recast w) m = extent_settled (fair w) (extent_of (recast_by w m)) (recast_by w m) m refl
extent_layered Counterchange m = refl

-- ---- folds
abbrev pub then : {A B : Type 0} → Result A FoldRefused → (A → Result B FoldRefused) → Result B FoldRefused
then (Ok a) f = f a
then (Err e) f = Err e

-- what a fold below comes to
abbrev pub raising : Result Extent LayerRefused → Layer → Meaning → Fold → Result Fold FoldRefused
raising r l m f = Ok (raise r (inside m.hem f.home) l f)

-- the fold of a cell, by the layer's extent or refusal
abbrev passing : Result Extent LayerRefused → Layer → Meaning → Cell → Result Fold FoldRefused
passing r l m p = then (lower r l p) (λ q. then (folded m q) (raising r l m))

as_it_is : (r : Result Fold FoldRefused) → r ≡ then r Ok
as_it_is (Ok f) = refl
as_it_is (Err e) = refl

-- a layer that moves cells by `down` and homes by `up`, and whose span leads into the span below
step : (r : Result Extent LayerRefused) (l : Layer) (m over : Meaning) → Lawful m
    → ((own : Extent) → r ≡ Ok own → over.span ≡ own.span)
    → ((p : Cell) → over.home p ≡ up l (m.home (down l p)))
    → ((p : Cell) → over.kinds p ≡ recounted l (m.kinds (down l p)))
    → ((own : Extent) → r ≡ Ok own → (p : Cell) → Within own.span p → Within m.span (down l p))
    → (p : Cell) → folded (settled r over m) p ≡ passing r l m p
step (Err why) l m over laws spans homes counts into p = as_it_is (folded m p)
step (Ok own) l m over laws spans homes counts into p = go (inside own.span p) refl
  where
    mine : Fold
    mine = record { home = over.home p; kinds = over.kinds p }

    theirs : Fold
    theirs = record { home = m.home (down l p); kinds = m.kinds (down l p) }

    go : (b : Bool) → inside own.span p ≡ b → answer (inside over.span p) mine ≡ then (in_span b (down l p)) (λ q. then (folded m q) (raising (Ok own) l m))
    go false e = ap (λ (n : ℕ). answer (inside n p) mine) (spans own refl) ∙ ap (λ b. answer b mine) e
    go true e =
        let below = into own refl p (inside_within own.span p e) in
        let found : folded m (down l p) ≡ Ok theirs = ap (λ b. answer b theirs) (within_inside m.span (down l p) below) in
        let near : inside m.hem theirs.home ≡ true = within_inside m.hem theirs.home (laws.near (down l p) below) in
        let same : mine ≡ record { home = up l theirs.home; kinds = recounted l theirs.kinds } = λ i. record { home = homes p i; kinds = counts p i } in
        ap (λ (n : ℕ). answer (inside n p) mine) (spans own refl) ∙ ap (λ b. answer b mine) e ∙ ap Ok same
        ∙ sym (ap (λ b. Ok (raise (Ok own) b l theirs)) near) ∙ sym (ap (λ r. then r (raising (Ok own) l m)) found)

pub passed : (l : Layer) (m : Meaning) → Lawful m → (p : Cell) → folded (layered l m) p ≡ then (lowered l (extent_of m) p) (λ q. then (folded m q) (λ f. Ok (raised l (extent_of m) f)))
passed (Shift w) m laws =
    let own : Extent = extent_of (moved_by w m) in
    step (shift_extent w (extent_of m)) (Shift w) m (moved_by w m) laws
    (λ e q. sym (ap (λ (x : Extent). x.span) (granted (short w) own e q).2))
    (λ p. refl) (λ p. refl)
    (λ e q p i.
    let g = granted (short w) own e q in
    let r = roomy_is own g.1 in
    shift-into w m.span p (omega (arith, r.0)) (subst (λ (x : Extent). Within x.span p) g.2 i))
passed (Recast w) m laws =
    let own : Extent = extent_of (recast_by w m) in
    step (recast_extent w (extent_of m)) (Recast w) m (recast_by w m) laws
    (λ e q. sym (ap (λ (x : Extent). x.span) (granted (fair w) own e q).2))
    (λ p. refl) (λ p. refl)
    (λ e q p i.
    let g = granted (fair w) own e q in
    recast-into w g.0 m.span p (subst (λ (x : Extent). Within x.span p) g.2 i))
passed Counterchange m laws = step (Ok (extent_of m)) Counterchange m (counterchanged m) laws (λ e q. ap (λ (r : Result Extent LayerRefused). (settled_extent r (extent_of m)).span) q) (λ p. refl) (λ p. refl) (λ e q p i. subst (λ (n : ℕ). Within n p) (sym (ap (λ (r : Result Extent LayerRefused). (settled_extent r (extent_of m)).span) q)) i)

-- the three ways through a layer, over its extent as it was asked
module _ (l : Layer) (m : Meaning) (laws : Lawful m) (p : Cell) (x : Extent) (asked : x ≡ extent_of m) where
  pub lower_refused : (e : FoldRefused) → Err e ≡ lowered l x p → Err e ≡ folded (layered l m) p
  lower_refused e h =
      ap (λ (r : Result Cell FoldRefused). then r (λ q. then (folded m q) (λ f. Ok (raised l (extent_of m) f)))) (h ∙ ap (λ (y : Extent). lowered l y p) asked)
      ∙ sym (passed l m laws p)

  after_lower : (q : Cell) → Ok q ≡ lowered l x p → then (folded m q) (λ f. Ok (raised l (extent_of m) f)) ≡ folded (layered l m) p
  after_lower q h =
      ap (λ (r : Result Cell FoldRefused). then r (λ q. then (folded m q) (λ f. Ok (raised l (extent_of m) f)))) (h ∙ ap (λ (y : Extent). lowered l y p) asked)
      ∙ sym (passed l m laws p)

  pub fold_refused : (q : Cell) (e : FoldRefused) → Ok q ≡ lowered l x p → Err e ≡ folded m q → Err e ≡ folded (layered l m) p
  fold_refused q e h k = ap (λ (r : Result Fold FoldRefused). then r (λ f. Ok (raised l (extent_of m) f))) k ∙ after_lower q h

  pub found_below : (q : Cell) (f g : Fold) → Ok q ≡ lowered l x p → Ok f ≡ folded m q → g ≡ raised l x f → Ok g ≡ folded (layered l m) p
  found_below q f g h k e =
      ap Ok (e ∙ ap (λ (y : Extent). raised l y f) asked) ∙ ap (λ (r : Result Fold FoldRefused). then r (λ f. Ok (raised l (extent_of m) f))) k ∙ after_lower q h
