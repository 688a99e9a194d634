use Rattle.std.proofs.Common.{◌≡◌, List, Ok, Err, vec_items, Result, sym, ap, ◌∙◌}
use Rattle.std.proofs.lemmas.Result.{err_from_is_err_and}
use Rattle.plane.specs.declared.cell.Cell.{Cell}
use Rattle.plane.specs.declared.fold.Fold.{Fold}
use Rattle.plane.specs.declared.fold.FoldRefused.{FoldRefused}
use Rattle.plane.specs.Meaning.{Meaning, folded}
use Rattle.layers.proofs.Passing.{then}
use Rattle.pile.specs.declared.levels.Level.{Level}
use Rattle.pile.specs.Base.{based}
use Rattle.pile.specs.Levels.{piled, lowered_through, raised_through}
use Rattle.pile.specs.Basing.{base_laws}
use Rattle.pile.specs.Piling.{pile_fold}
use Rattle.pile.proofs.pile.folds.PileSymmetry.fold.Goals as goal

-- the three ways through a pile, over its levels as they were read
module _ (ls read : List Level) (is : read ≡ ls) (m : Meaning) (p : Cell) (passed : folded (piled ls m) p ≡ then (lowered_through ls p) (λ q. then (folded m q) (λ f. Ok (raised_through ls f)))) where
  onward : (r : Result Cell FoldRefused) → r ≡ lowered_through read p → then r (λ q. then (folded m q) (λ f. Ok (raised_through ls f))) ≡ folded (piled ls m) p
  onward r e = ap (λ (r : Result Cell FoldRefused). then r (λ q. then (folded m q) (λ f. Ok (raised_through ls f)))) (e ∙ ap (λ (ks : List Level). lowered_through ks p) is) ∙ sym passed

  off_levels : (o : FoldRefused) → Err o ≡ lowered_through read p → Err o ≡ folded (piled ls m) p
  off_levels o e = onward (Err o) e

  off_base : (q : Cell) (o : FoldRefused) → Ok q ≡ lowered_through read p → Err o ≡ folded m q → Err o ≡ folded (piled ls m) p
  off_base q o e k = ap (λ (r : Result Fold FoldRefused). then r (λ f. Ok (raised_through ls f))) k ∙ onward (Ok q) e

  found : (q : Cell) (f g : Fold) → Ok q ≡ lowered_through read p → Ok f ≡ folded m q → g ≡ raised_through read f → Ok g ≡ folded (piled ls m) p
  found q f g e k h = ap Ok (h ∙ ap (λ (ks : List Level). raised_through ks f) is) ∙ ap (λ (r : Result Fold FoldRefused). then r (λ f. Ok (raised_through ls f))) k ∙ onward (Ok q) e

pub returns-in_err-lowered : goal.returns-in_err-lowered
returns-in_err-lowered c =
    let s = c.args.self.now in
    let ls = vec_items s.levels in
    let h = err_from_is_err_and c.from_residual.result c.from_residual.ensures.1 in
    h.1 ∙ ap Err h.2 ∙ off_levels ls c.as_slice-levels.result.now c.as_slice-levels.ensures.value (based s.base) c.args.at (pile_fold ls (based s.base) (base_laws s.base) s.level c.args.at) c.in_err-lowered.field-0.0 c.in_err-lowered.ensures

pub returns-in_err-found : goal.returns-in_err-found
returns-in_err-found c =
    let s = c.args.self.now in
    let ls = vec_items s.levels in
    let h = err_from_is_err_and c.from_residual-in_err-found.result c.from_residual-in_err-found.ensures.1 in
    h.1 ∙ ap Err h.2 ∙ off_base ls c.as_slice-levels.result.now c.as_slice-levels.ensures.value (based s.base) c.args.at (pile_fold ls (based s.base) (base_laws s.base) s.level c.args.at) c.in_ok-lowered.lowered c.in_err-found.field-0.0 c.in_ok-lowered.ensures c.in_err-found.ensures

pub returns : goal.returns
returns c =
    let s = c.args.self.now in
    let ls = vec_items s.levels in
    found ls c.as_slice-levels.result.now c.as_slice-levels.ensures.value (based s.base) c.args.at (pile_fold ls (based s.base) (base_laws s.base) s.level c.args.at) c.in_ok-lowered.lowered c.in_ok-found.found c.raise_through.result c.in_ok-lowered.ensures c.in_ok-found.ensures c.raise_through.ensures
