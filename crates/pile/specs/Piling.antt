-- The laws of a pile, its extent and its folds, by induction on its levels.
use Rattle.std.specs.Prelude.{◌≡◌, Bool, true, false, cond, ◌&&◌, List, [], ◌∷◌, ◌++◌, Ok, Err, Result, ◌==◌, refl}
use Rattle.std.proofs.Common.{sym, ap, ◌∙◌, subst, eqb-true, eq-eqb}
use Rattle.std.proofs.lemmas.Bool.{and_parts}
use Rattle.plane.specs.declared.cell.Cell.{Cell}
use Rattle.plane.specs.declared.fold.Extent.{Extent}
use Rattle.plane.specs.declared.fold.Fold.{Fold}
use Rattle.plane.specs.declared.fold.FoldRefused.{FoldRefused}
use Rattle.plane.specs.Meaning.{Meaning, Alike, extent_of, folded}
use Rattle.plane.specs.Laws.{Lawful}
use Rattle.layers.specs.Layer.{layer_extent, laid, layered, settled_extent, lowered, raised}
use Rattle.layers.proofs.Passing.{then, passed, layer_laws, extent_layered, laid_alike}
use Rattle.pile.specs.declared.levels.Level.{Level}
use Rattle.pile.specs.Levels.{piled, same_extent, levelled, top_extent, lowered_by, lowered_through, raised_through}

same_extent_is : (e f : Extent) → same_extent e f ≡ true → e ≡ f
same_extent_is e f t =
    let h = and_parts (e.span == f.span) (e.hem == f.hem) t in
    λ i. record { span = eqb-true e.span f.span h.0 i; hem = eqb-true e.hem f.hem h.1 i }

same_extent_of : (e f : Extent) → e ≡ f → same_extent e f ≡ true
same_extent_of e f q = ap (λ b. b && e.hem == f.hem) (eq-eqb e.span f.span (ap (λ (x : Extent). x.span) q)) ∙ eq-eqb e.hem f.hem (ap (λ (x : Extent). x.hem) q)

-- ---- the laws
pub pile_laws : (ls : List Level) (m : Meaning) → Lawful m → Lawful (piled ls m)
pile_laws [] m laws = laws
pile_laws (l ∷ ls) m laws = pile_laws ls (layered l.layer m) (layer_laws l.layer m laws)

-- ---- the extent
pub pile_extent : (ls : List Level) (m : Meaning) → levelled ls m ≡ true → extent_of (piled ls m) ≡ top_extent ls (extent_of m)
pile_extent [] m t = refl
pile_extent (l ∷ ls) m t =
    let h = and_parts (same_extent l.below (extent_of m)) (levelled ls (layered l.layer m)) t in
    let e : extent_of m ≡ l.below = sym (same_extent_is l.below (extent_of m) h.0) in
    pile_extent ls (layered l.layer m) h.1 ∙ ap (top_extent ls) (extent_layered l.layer m ∙ ap (λ (x : Extent). settled_extent (layer_extent l.layer x) x) e)

-- ---- the folds
as_it_is : (r : Result Fold FoldRefused) → r ≡ then r Ok
as_it_is (Ok f) = refl
as_it_is (Err e) = refl

-- through a level, and on
on_through : (l : Level) (m : Meaning) (x : Extent) (ls : List Level) (r : Result Cell FoldRefused)
    → then r (λ q. then (then (lowered l.layer x q) (λ p. then (folded m p) (λ f. Ok (raised l.layer x f)))) (λ f. Ok (raised_through ls f)))
    ≡ then (then r (λ q. lowered l.layer x q)) (λ p. then (folded m p) (λ f. Ok (raised_through ls (raised l.layer x f))))
on_through l m x ls (Err e) = refl
on_through l m x ls (Ok q) = go (lowered l.layer x q)
  where
    up : (r : Result Fold FoldRefused) → then (then r (λ f. Ok (raised l.layer x f))) (λ f. Ok (raised_through ls f)) ≡ then r (λ f. Ok (raised_through ls (raised l.layer x f)))
    up (Ok f) = refl
    up (Err e) = refl

    go : (r : Result Cell FoldRefused) → then (then r (λ p. then (folded m p) (λ f. Ok (raised l.layer x f)))) (λ f. Ok (raised_through ls f)) ≡ then r (λ p. then (folded m p) (λ f. Ok (raised_through ls (raised l.layer x f))))
    go (Ok p) = up (folded m p)
    go (Err e) = refl

lowered_as : (l : Level) (r : Result Cell FoldRefused) → then r (λ q. lowered l.layer l.below q) ≡ lowered_by l r
lowered_as l (Ok q) = refl
lowered_as l (Err e) = refl

pub pile_fold : (ls : List Level) (m : Meaning) → Lawful m → levelled ls m ≡ true → (p : Cell) → folded (piled ls m) p ≡ then (lowered_through ls p) (λ q. then (folded m q) (λ f. Ok (raised_through ls f)))
pile_fold [] m laws t p = as_it_is (folded m p)
pile_fold (l ∷ ls) m laws t p =
    let h = and_parts (same_extent l.below (extent_of m)) (levelled ls (layered l.layer m)) t in
    let e : extent_of m ≡ l.below = sym (same_extent_is l.below (extent_of m) h.0) in
    let layer = λ (q : Cell). passed l.layer m laws q ∙ ap (λ (x : Extent). then (lowered l.layer x q) (λ z. then (folded m z) (λ f. Ok (raised l.layer x f)))) e in
    pile_fold ls (layered l.layer m) (layer_laws l.layer m laws) h.1 p
    ∙ each (lowered_through ls p) (λ q. then (folded (layered l.layer m) q) (λ f. Ok (raised_through ls f))) (λ q. then (then (lowered l.layer l.below q) (λ z. then (folded m z) (λ f. Ok (raised l.layer l.below f)))) (λ f. Ok (raised_through ls f))) (λ q. ap (λ (r : Result Fold FoldRefused). then r (λ f. Ok (raised_through ls f))) (layer q))
    ∙ on_through l m l.below ls (lowered_through ls p)
    ∙ ap (λ (r : Result Cell FoldRefused). then r (λ z. then (folded m z) (λ f. Ok (raised_through ls (raised l.layer l.below f))))) (lowered_as l (lowered_through ls p))
  where
    each : (r : Result Cell FoldRefused) (f g : Cell → Result Fold FoldRefused) → ((q : Cell) → f q ≡ g q) → then r f ≡ then r g
    each (Ok q) f g e = e q
    each (Err o) f g e = refl

-- ---- one level more
piled_more : (ls : List Level) (l : Level) (m : Meaning) → piled (ls ++ l ∷ []) m ≡ layered l.layer (piled ls m)
piled_more [] l m = refl
piled_more (k ∷ ls) l m = piled_more ls l (layered k.layer m)

levelled_more : (ls : List Level) (l : Level) (m : Meaning) → levelled ls m ≡ true → l.below ≡ extent_of (piled ls m) → levelled (ls ++ l ∷ []) m ≡ true
levelled_more [] l m t e = ap (λ b. b && true) (same_extent_of l.below (extent_of m) e)
levelled_more (k ∷ ls) l m t e =
    let h = and_parts (same_extent k.below (extent_of m)) (levelled ls (layered k.layer m)) t in
    ap (λ b. b && levelled (ls ++ l ∷ []) (layered k.layer m)) h.0 ∙ levelled_more ls l (layered k.layer m) h.1 e

-- after a try to add a level
pub levelled_tried : (b : Bool) (ls ks : List Level) (l : Level) (m : Meaning) → ks ≡ cond b (ls ++ l ∷ []) ls → levelled ls m ≡ true → l.below ≡ extent_of (piled ls m) → levelled ks m ≡ true
levelled_tried true ls ks l m e t x = ap (λ (zs : List Level). levelled zs m) e ∙ levelled_more ls l m t x
levelled_tried false ls ks l m e t x = ap (λ (zs : List Level). levelled zs m) e ∙ t

-- a pile that has grown means what the rules give
pub grown_alike : (ls ks : List Level) (l : Level) (m : Meaning) (own : Extent) → ks ≡ ls ++ l ∷ [] → Ok own ≡ layer_extent l.layer (extent_of (piled ls m)) → Alike (piled ks m) (laid l.layer (piled ls m))
grown_alike ls ks l m own e told =
    subst (λ (zs : List Level). Alike (piled zs m) (laid l.layer (piled ls m))) (sym e)
    (subst (λ (z : Meaning). Alike z (laid l.layer (piled ls m))) (sym (piled_more ls l m)) (laid_alike l.layer (piled ls m) own told))
