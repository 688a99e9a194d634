-- Levels taken one by one, from the top and from the bottom.
use Rattle.std.proofs.Common.{◌≡◌, ℕ, ◌+◌, ◌-◌, ◌<◌, ◌≤◌, List, [], ◌∷◌, ◌++◌, length, get_or, take, drop, Some, None, Option, Ok, Err, Result, sym, refl, ap, ◌∙◌, arith}
use Rattle.std.proofs.lemmas.List.{take_more, take_all, drop_more}
use Rattle.std.specs.List.{slice_get}
use Rattle.std.proofs.lemmas.Option.{slice_get-get_or}
use Rattle.plane.specs.declared.cell.Cell.{Cell}
use Rattle.plane.specs.declared.fold.Extent.{Extent}
use Rattle.plane.specs.declared.fold.Fold.{Fold}
use Rattle.plane.specs.declared.fold.FoldRefused.{FoldRefused}
use Rattle.layers.specs.Layer.{lowered, raised}
use Rattle.pile.specs.declared.levels.Level.{Level}
use Rattle.pile.specs.Levels.{level_extent, top_extent, lowered_by, lowered_through, raised_through}

-- ---- the highest level
abbrev pub extent_at : Option Level → Extent → Extent
extent_at None e = e
extent_at (Some l) e = level_extent l

top_of : (ls : List Level) (l : Level) (e : Extent) → top_extent (ls ++ l ∷ []) e ≡ level_extent l
top_of [] l e = refl
top_of (k ∷ ls) l e = top_of ls l (level_extent k)

top_is : (ls : List Level) (d : Level) (e : Extent) → 1 ≤ length ls → level_extent (get_or ls (length ls - 1) d) ≡ top_extent ls e
top_is ls d e h =
    let n : ℕ = length ls - 1 in
    let whole : take (n + 1) ls ≡ ls = take_all (n + 1) ls (omega arith) in
    let split : take n ls ++ get_or ls n d ∷ [] ≡ ls = sym (take_more ls n d (omega arith)) ∙ whole in
    sym (top_of (take n ls) (get_or ls n d) e) ∙ ap (λ (ks : List Level). top_extent ks e) split

pub top_last : (ls : List Level) (e : Extent) (last : Option Level) → last ≡ slice_get ls (length ls - 1) → extent_at last e ≡ top_extent ls e
top_last [] e last is = ap (λ (o : Option Level). extent_at o e) is
top_last (l ∷ ls) e last is =
    ap (λ (o : Option Level). extent_at o e) (is ∙ slice_get-get_or (l ∷ ls) (length (l ∷ ls) - 1) l (omega arith)) ∙ top_is (l ∷ ls) l e (omega arith)

-- ---- lowering, from the top
abbrev onward : List Level → Result Cell FoldRefused → Result Cell FoldRefused
onward ls (Ok p) = lowered_through ls p
onward ls (Err e) = Err e

at_bottom : (r : Result Cell FoldRefused) → r ≡ onward [] r
at_bottom (Ok p) = refl
at_bottom (Err e) = refl

under_one : (l : Level) (ls : List Level) (r : Result Cell FoldRefused) → lowered_by l (onward ls r) ≡ onward (l ∷ ls) r
under_one l ls (Ok p) = refl
under_one l ls (Err e) = refl

from_top : (ls : List Level) (l : Level) (p : Cell) → lowered_through (ls ++ l ∷ []) p ≡ onward ls (lowered l.layer l.below p)
from_top [] l p = at_bottom (lowered l.layer l.below p)
from_top (k ∷ ls) l p = ap (lowered_by k) (from_top ls l p) ∙ under_one k ls (lowered l.layer l.below p)

-- the highest of the levels that are left is lowered next
module _ (ls rest : List Level) (l : Level) (p : Cell) (goal : Result Cell FoldRefused) (split : ls ≡ rest ++ l ∷ []) (inv : lowered_through ls p ≡ goal) where
  next_lower : onward rest (lowered l.layer l.below p) ≡ goal
  next_lower = sym (from_top rest l p) ∙ sym (ap (λ (ks : List Level). lowered_through ks p) split) ∙ inv

  pub lower_on : (q : Cell) → Ok q ≡ lowered l.layer l.below p → lowered_through rest q ≡ goal
  lower_on q e = ap (onward rest) e ∙ next_lower

  pub lower_stops : (o : FoldRefused) → Err o ≡ lowered l.layer l.below p → Err o ≡ goal
  lower_stops o e = ap (onward rest) e ∙ next_lower

-- ---- raising, from the bottom
pub raise_on : (ls : List Level) (i : ℕ) (d : Level) (f g goal : Fold) → i < length ls → g ≡ raised (get_or ls i d).layer (get_or ls i d).below f → raised_through (drop i ls) f ≡ goal → raised_through (drop (i + 1) ls) g ≡ goal
raise_on ls i d f g goal h e inv = ap (raised_through (drop (i + 1) ls)) e ∙ sym (ap (λ (ks : List Level). raised_through ks f) (drop_more ls i d h)) ∙ inv
