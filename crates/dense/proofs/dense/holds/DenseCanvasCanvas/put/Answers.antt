use Rattle.std.proofs.Common.{◌≡◌, ℕ, ◌≤◌, Some, Option, sym, ◌∙◌, arith}
use Rattle.std.proofs.lemmas.Grind.{common_steps}
use Rattle.dense.specs.Area.{place_if}
use Rattle.dense.proofs.Puts.{Written, few_held, writes}
use Rattle.dense.proofs.dense.holds.DenseCanvasCanvas.put.Goals as goal
use Rattle.dense.proofs.dense.holds.DenseCanvasCanvas.put.Goals.{After-recount-self}

-- the byte of the cell is written
written : (c : goal.After-recount-self) → Written c.args.self.now.area c.args.self.now.bytes.now c.args.self.now.held c.args.at c.args.ink c.recount-self.result c.in_ok-i.i
written c =
    let low : c.args.ink ≤ 15 = omega arith in
    let at : ◌≡◌ {A = Option ℕ} (Some c.in_ok-i.i) (place_if c.args.self.now.area c.args.at) = grind (arith, common_steps) in
    let s = c.args.self.now in
    writes s.area s.bytes.now s.held c.args.at c.args.ink c.recount-self.result c.in_ok-i.i s.long s.small s.counted low at c.recount-self.ensures

pub recount-self-requires : goal.recount-self-requires
recount-self-requires c = few_held c.args.self.now.area c.args.self.now.bytes.now c.args.self.now.held c.place.ensures.few c.args.self.now.counted

pub invariant_of-self : goal.invariant_of-self
invariant_of-self c =
    let w = written (goal.at.invariant_of-self c).After-recount-self in
    record { long = w.long; small = w.small; counted = w.counted }

pub returns : goal.returns
returns c =
    let w = written (goal.at.returns c).After-recount-self in
    record { answer = sym w.takes.answer; after = w.board ∙ sym w.takes.board; rest = w.rest }
