-- The homes of a window's cells, gathered cell by cell.
use Rattle.std.proofs.Common.{◌≡◌, Bool, true, false, cond, not, ◌&&◌, ◌||◌, ◌⊎◌, List, [], ◌∷◌, pos, nat_abs, Some, None, Option, sym, refl, ap, ◌∙◌, subst, ap₂, inl, inr}
use Rattle.plane.specs.declared.cell.Cell.{Cell}
use Rattle.plane.specs.declared.rectangle.Rectangle.{Rectangle}
use Rattle.plane.specs.declared.window.Window.{Window}
use Rattle.plane.specs.declared.rectangle.RectangleRefused.{RectangleRefused}
use Rattle.plane.specs.declared.rectangle.RectangleRefused.TheVariants.{Side, OffSpan}
use Rattle.plane.specs.Cells.{AllWithin, Within, all_inside, inside}
use Rattle.plane.specs.Rectangles.{rectangle_refusal, window_cells, wrong_side}
use Rattle.plane.specs.Meaning.{Meaning}
use Rattle.plane.specs.Laws.{Carried, Lawful}
use Rattle.plane.proofs.Algebra.{same-cell}
use Rattle.plane.proofs.Carrying.{carried_sym, carried_trans}
use Rattle.plane.proofs.Folding.{outside}
use Rattle.plane.proofs.Rectangles.{all_within, window_at}
use Rattle.groups.specs.Lists.{In}
use Rattle.census.specs.declared.fault.WindowFault.TheVariants.{NoMemory, Refused}
use Rattle.census.specs.Homes.{Distinct, Homes}
use Rattle.census.specs.Windows.{InWindow, Met, Refuses, met, noted, side}
use Rattle.census.proofs.Noting.{noted_distinct, noted_kept, noted-has, noted_only}
use Rattle.census.proofs.Places.{cell_in, cell_place}

-- ---- a list of homes with those of more cells
module _ (home : Cell → Cell) where
  met_distinct : (hs cs : List Cell) → Distinct hs → Distinct (met home hs cs)
  met_distinct hs [] d = d
  met_distinct hs (c ∷ cs) d = met_distinct (noted hs (home c)) cs (noted_distinct hs (home c) d)

  met_kept : (hs cs : List Cell) (g : Cell) → In g hs → In g (met home hs cs)
  met_kept hs [] g i = i
  met_kept hs (c ∷ cs) g i = met_kept (noted hs (home c)) cs g (noted_kept hs (home c) g i)

  met-has : (hs cs : List Cell) (c : Cell) → In c cs → In (home c) (met home hs cs)
  met-has hs [] c i = absurd i
  met-has hs (d ∷ cs) c (inl e) = met_kept (noted hs (home d)) cs (home c) (subst (λ z. In (home z) (noted hs (home d))) (sym e) (noted-has hs (home d)))
  met-has hs (d ∷ cs) c (inr i) = met-has (noted hs (home d)) cs c i

  abbrev FromOne : Cell → List Cell → Type 0
  FromOne g cs = (c : Cell) × In c cs × (home c ≡ g)

  met_only : (hs cs : List Cell) (g : Cell) → In g (met home hs cs) → In g hs ⊎ FromOne g cs
  met_only hs [] g i = inl i
  met_only hs (c ∷ cs) g i = go (met_only (noted hs (home c)) cs g i)
    where
      old : In g hs ⊎ (g ≡ home c) → In g hs ⊎ FromOne g (c ∷ cs)
      old (inl j) = inl j
      old (inr e) = inr (c, inl refl, sym e)

      go : In g (noted hs (home c)) ⊎ FromOne g cs → In g hs ⊎ FromOne g (c ∷ cs)
      go (inl j) = old (noted_only hs (home c) g j)
      go (inr f) = inr (f.0, inr f.1, f.2)

-- ---- the cells of a window
pub cells_same : (r : Rectangle) (w : Window) → w.corner ≡ r.corner → pos w.width ≡ r.width → pos w.height ≡ r.height → window_cells w.corner w.width w.height ≡ window_cells r.corner (nat_abs r.width) (nat_abs r.height)
cells_same r w c x y = ap (λ z. window_cells z w.width w.height) c ∙ ap₂ (window_cells r.corner) (ap nat_abs x) (ap nat_abs y)

module _ (m : Meaning) (laws : Lawful m) (r : Rectangle) where
  abbrev cells : List Cell
  cells = window_cells r.corner (nat_abs r.width) (nat_abs r.height)

  abbrev here : Cell → Type 0
  here = InWindow r.corner r.width r.height

  listed : (c : Cell) → here c → In c cells
  listed c w = subst (λ z. In z cells) (same-cell (sym w.x) (sym w.y)) (cell_in r.corner (nat_abs r.width) (nat_abs r.height) w.column w.row w.narrow w.low)

  found : (c : Cell) → In c cells → here c
  found c i =
      let w = cell_place r.corner (nat_abs r.width) (nat_abs r.height) c i in
      record { column = w.column; row = w.row; x = ap (λ (z : Cell). z.x) w.is; y = ap (λ (z : Cell). z.y) w.is; narrow = w.narrow; low = w.low }

  in_span : AllWithin m.span cells → (c : Cell) → here c → Within m.span c
  in_span a c w = subst (Within m.span) (same-cell (sym w.x) (sym w.y)) (window_at m.span r.corner (nat_abs r.width) (nat_abs r.height) a w.column w.row w.narrow w.low)

  -- one of the cells is off the span, where not all are in it
  one_without : (ps : List Cell) → all_inside m.span ps ≡ false → (c : Cell) × In c ps × (Within m.span c → ⊥)
  one_without [] e = cc
  one_without (p ∷ ps) e = go (inside m.span p) refl (one_without ps)
    where
      go : (b : Bool) → inside m.span p ≡ b → (all_inside m.span ps ≡ false → (c : Cell) × In c ps × (Within m.span c → ⊥)) → (c : Cell) × In c (p ∷ ps) × (Within m.span c → ⊥)
      go true f rest = let o = rest (sym (ap (λ b. b && all_inside m.span ps) f) ∙ e) in (o.0, inr o.1, o.2)
      go false f rest = (p, inl refl, outside m.span p f)

  met_homes : AllWithin m.span cells → Homes m here (met m.home [] cells)
  met_homes within = record {
    distinct = met_distinct m.home [] cells tt;
    all = λ c w. met-has m.home [] cells c (listed c w);
    only = λ h i. let o = of h i in (o.0, found o.0 o.1, o.2);
    apart = λ g h i j k.
        let v = of g i in
        let w = of h j in
        let inc = in_span within v.0 (found v.0 v.1) in
        let ind = in_span within w.0 (found w.0 w.1) in
        let G = laws.group in
        let S = m.operations in
        let there = subst (Carried S v.0) v.2 (laws.carried v.0 inc) in
        let back = carried_sym S G w.0 h (subst (Carried S w.0) w.2 (laws.carried w.0 ind)) in
        sym v.2 ∙ (laws.one_home v.0 w.0 inc ind).1 (carried_trans S G v.0 h w.0 (carried_trans S G v.0 g h there k) back) ∙ w.2;
  }
    where
      of : (g : Cell) → In g (met m.home [] cells) → FromOne m.home g cells
      of g i = go (met_only m.home [] cells g i)
        where
          go : In g [] ⊎ FromOne m.home g cells → FromOne m.home g cells
          go (inl j) = absurd j
          go (inr f) = f

  -- ---- what the call answers
  abbrev why_by : Bool → Bool → Bool → Option RectangleRefused
  why_by a b t = cond (a || b) (Some Side) (cond (not t) (Some OffSpan) None)

  right_sides : (a b t : Bool) → (why_by a b t ≡ Some Side → ⊥) → not a && not b ≡ true
  right_sides true b t n = absurd (n refl)
  right_sides false true t n = absurd (n refl)
  right_sides false false t n = refl

  wrong_sides : (a b t : Bool) → why_by a b t ≡ Some Side → not a && not b ≡ false
  wrong_sides true b t e = refl
  wrong_sides false true t e = refl
  wrong_sides false false true e = cc
  wrong_sides false false false e = cc

  not_all : (a b t : Bool) → why_by a b t ≡ Some OffSpan → t ≡ false
  not_all true b t e = cc
  not_all false true t e = cc
  not_all false false true e = cc
  not_all false false false e = refl

  every : (a b t : Bool) → why_by a b t ≡ None → t ≡ true
  every true b t e = cc
  every false true t e = cc
  every false false true e = refl
  every false false false e = cc

  abbrev refusal : Option RectangleRefused
  refusal = rectangle_refusal m.span r

  sides : (refusal ≡ Some Side → ⊥) → side r.width && side r.height ≡ true
  sides = right_sides (wrong_side r.width) (wrong_side r.height) (all_inside m.span cells)

  pub refuses : (why : RectangleRefused) → refusal ≡ Some why → Refuses m r.corner r.width r.height (Refused why)
  refuses Side e = wrong_sides (wrong_side r.width) (wrong_side r.height) (all_inside m.span cells) e
  refuses OffSpan e =
      let o = one_without cells (not_all (wrong_side r.width) (wrong_side r.height) (all_inside m.span cells) e) in
      (sides (λ f. cc), (o.0, found o.0 o.1, o.2))

  module _ (e : refusal ≡ None) where
    pub spanned : AllWithin m.span cells
    spanned = all_within m.span cells (every (wrong_side r.width) (wrong_side r.height) (all_inside m.span cells) e)

    pub no_memory : Refuses m r.corner r.width r.height NoMemory
    no_memory = (sides (λ f. cc), in_span spanned)

    pub all_met : (hs : List Cell) → hs ≡ met m.home [] cells → Met m r.corner r.width r.height hs
    all_met hs eq = record { sides = no_memory.0; within = no_memory.1; homes = subst (Homes m here) (sym eq) (met_homes spanned) }
