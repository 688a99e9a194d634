use Rattle.std.proofs.Common.{ℕ, ◌<◌, ◌≤◌, List, [], length, Some, None, Option, sym, refl, ap, ◌∙◌, subst, arith}
use lib.Seq.{map-set_same}
use Rattle.std.proofs.lemmas.List.{take_all}
use Rattle.canvas.specs.Board.{Board}
use Rattle.views.specs.Shows.{shown_ink}
use Rattle.ledger.specs.Feeding.{setting}
use Rattle.ledger.proofs.Grouped.{classes}
use Rattle.sheet.specs.declared.sheet.OpenSheet.{OpenSheet}
use Rattle.sheet.specs.declared.sheet.ClosedSheet.{ClosedSheet}
use Rattle.history.specs.declared.calls.Answered.{Answered}
use Rattle.history.specs.declared.calls.Drawing.{Drawing}
use Rattle.history.specs.declared.calls.Viewing.{Viewing}
use Rattle.history.specs.Histories.{Lent, Told}
use Rattle.history.specs.Twins.{TwinsAgree}
use Rattle.history.proofs.Runs.{Along, Beyond, along_open, along_put, beyond_put, told_open, closed, told_closed}
use Rattle.history.proofs.TwinRuns.{twins_agree}
use Rattle.history.proofs.replay.replay.Given as given
use Rattle.history.proofs.replay.replay.Goals as goal
use Rattle.history.proofs.replay.replay.Goals.{After-loop-drawn}

-- every call of the open sheet is answered
drawn : (g : given.Over) (c : goal.After-loop-drawn g) → let b = g.C.Canvas.board c.args.canvas.now in Along (g.S.Symmetry.meaning c.args.symmetry.now) b.frame b.seats c.args.palette.now c.args.output.now c.loop-drawn.drawing c.loop-drawn.sheet.strokes (g.C.Canvas.board c.loop-drawn.canvas) c.loop-drawn.at c.loop-drawn.output
drawn g c =
    let b = g.C.Canvas.board c.args.canvas.now in
    let l = c.loop-drawn in
    let h : length l.drawing ≤ l.drawn-index = omega arith in
    subst (λ xs. Along (g.S.Symmetry.meaning c.args.symmetry.now) b.frame b.seats c.args.palette.now c.args.output.now xs l.sheet.strokes (g.C.Canvas.board l.canvas) l.at l.output) (take_all l.drawn-index l.drawing h) l.invariant.along

pub loop-drawn-init : goal.loop-drawn-init
loop-drawn-init g c = record {
  along = along_open (g.S.Symmetry.meaning c.args.symmetry.now) (g.C.Canvas.board c.args.canvas.now) (g.C.Canvas.board c.open-sheet.new.canvas) c.args.palette.now c.args.output.now c.open-sheet.result.strokes c.open-sheet.ensures.after (ap (λ (s : OpenSheet). s.strokes) c.open-sheet.ensures.sheet);
  calls = refl;
}

pub loop-drawn-preserved : goal.loop-drawn-preserved
loop-drawn-preserved g c =
    let m = g.S.Symmetry.meaning c.args.symmetry.now in
    let b : Board = g.C.Canvas.board c.args.canvas.now in
    let h : c.loop-drawn.drawn-index < length c.loop-drawn.drawing = omega arith in
    let t = c.draw.ensures in
    record {
      along = along_put m b.frame b.seats c.args.palette.now c.args.output.now (classes m (g.met.S.Symmetry.lawful c.args.symmetry.now)) c.loop-drawn.drawing c.loop-drawn.drawn-index _ c.draw.result c.loop-drawn.sheet.strokes c.draw.new.sheet.strokes (g.C.Canvas.board c.loop-drawn.canvas) (g.C.Canvas.board c.draw.new.canvas) c.loop-drawn.at c.past-end.result _ c.room.result c.loop-drawn.output c.draw.new.part h c.loop-drawn.invariant.along c.room.ensures c.past-end.ensures (omega arith) t.answer t.sheet t.after t.output;
      calls = map-set_same (λ (e : Answered Drawing). e.call) c.loop-drawn.drawing c.loop-drawn.drawn-index _ _ refl ∙ c.loop-drawn.invariant.calls;
    }

pub loop-viewed-init : goal.loop-viewed-init
loop-viewed-init g c =
    let m = g.S.Symmetry.meaning c.args.symmetry.now in
    let b : Board = g.C.Canvas.board c.args.canvas.now in
    let d : Board = g.C.Canvas.board c.loop-drawn.canvas in
    let es : List (Answered Drawing) = c.loop-drawn.drawing in
    let strokes = c.loop-drawn.sheet.strokes in
    let at = c.loop-drawn.at in
    let out : List ℕ = c.loop-drawn.output in
    let a = drawn g (goal.at.loop-viewed-init g c).After-loop-drawn in
    record {
      beyond = subst (λ (s : ClosedSheet). Beyond m b.frame b.seats c.args.palette.now c.args.output.now es [] s.held s.strokes d at out) (sym c.close-closed.ensures) (closed m b.frame b.seats c.args.palette.now c.args.output.now es strokes d at out a);
      calls = refl;
    }

pub loop-viewed-preserved : goal.loop-viewed-preserved
loop-viewed-preserved g c =
    let m = g.S.Symmetry.meaning c.args.symmetry.now in
    let b : Board = g.C.Canvas.board c.args.canvas.now in
    let h : c.loop-viewed.viewed-index < length c.loop-viewed.viewing = omega arith in
    let t = c.view.ensures in
    record {
      beyond = beyond_put m b.frame b.seats c.args.palette.now c.args.output.now (classes m (g.met.S.Symmetry.lawful c.args.symmetry.now)) c.loop-drawn.drawing c.loop-viewed.viewing c.loop-viewed.viewed-index _ c.view.result c.close-closed.result.held c.close-closed.result.strokes (g.C.Canvas.board c.loop-drawn.canvas) c.loop-viewed.at c.past-end-in-loop-viewed.result c.room-in-loop-viewed.result c.loop-viewed.output c.view.new.part h c.loop-viewed.invariant.beyond c.room-in-loop-viewed.ensures c.past-end-in-loop-viewed.ensures t.answer t.output;
      calls = map-set_same (λ (e : Answered Viewing). e.call) c.loop-viewed.viewing c.loop-viewed.viewed-index _ _ refl ∙ c.loop-viewed.invariant.calls;
    }

pub returns-in-None : goal.returns-in-None
returns-in-None g c =
    let m = g.S.Symmetry.meaning c.args.symmetry.now in
    let b : Board = g.C.Canvas.board c.args.canvas.now in
    let d : Board = g.C.Canvas.board c.loop-drawn.canvas in
    let cl = classes m (g.met.S.Symmetry.lawful c.args.symmetry.now) in
    let es : List (Answered Drawing) = c.loop-drawn.drawing in
    let strokes = c.loop-drawn.sheet.strokes in
    let at = c.loop-drawn.at in
    let out : List ℕ = c.loop-drawn.output in
    let lent : Lent = record { palette = c.args.palette.now; before = c.args.output.now; after = out } in
    let a = drawn g (goal.at.returns-in-None g c).After-loop-drawn in
    let t : Told (setting m b.frame) b.seats lent es None (shown_ink m d) = told_open m b.frame b.seats c.args.palette.now c.args.output.now cl es strokes d at out a in
    let w : TwinsAgree (setting m b.frame) b.seats lent es None = twins_agree m b.frame cl b.seats lent es None (shown_ink m d) t in
    record {
      drawing = c.loop-drawn.invariant.calls;
      viewing = rw c.in-None.is refl;
      told = subst (λ (v : Option (List (Answered Viewing))). Told (setting m b.frame) b.seats lent es v (shown_ink m d)) (rw c.in-None.is refl) t;
      twins = subst (λ (v : Option (List (Answered Viewing))). TwinsAgree (setting m b.frame) b.seats lent es v) (rw c.in-None.is refl) w;
    }

pub returns-after-loop-viewed : goal.returns-after-loop-viewed
returns-after-loop-viewed g c =
    let m = g.S.Symmetry.meaning c.args.symmetry.now in
    let b : Board = g.C.Canvas.board c.args.canvas.now in
    let d : Board = g.C.Canvas.board c.loop-drawn.canvas in
    let cl = classes m (g.met.S.Symmetry.lawful c.args.symmetry.now) in
    let palette : List ℕ = c.args.palette.now in
    let before : List ℕ = c.args.output.now in
    let es : List (Answered Drawing) = c.loop-drawn.drawing in
    let vs : List (Answered Viewing) = c.loop-viewed.viewing in
    let held = c.close-closed.result.held in
    let strokes = c.close-closed.result.strokes in
    let at = c.loop-viewed.at in
    let out : List ℕ = c.loop-viewed.output in
    let h : length vs ≤ c.loop-viewed.viewed-index = omega arith in
    let lent : Lent = record { palette = palette; before = before; after = out } in
    let last : Beyond m b.frame b.seats palette before es vs held strokes d at out = subst (λ xs. Beyond m b.frame b.seats palette before es xs held strokes d at out) (take_all c.loop-viewed.viewed-index vs h) c.loop-viewed.invariant.beyond in
    let t : Told (setting m b.frame) b.seats lent es (Some vs) (shown_ink m d) = told_closed m b.frame b.seats palette before cl es vs held strokes d at out last in
    let w : TwinsAgree (setting m b.frame) b.seats lent es (Some vs) = twins_agree m b.frame cl b.seats lent es (Some vs) (shown_ink m d) t in
    record {
      drawing = c.loop-drawn.invariant.calls;
      viewing = rw c.in-Some.is (ap (λ (xs : List Viewing). Some xs) c.loop-viewed.invariant.calls);
      told = subst (λ (v : Option (List (Answered Viewing))). Told (setting m b.frame) b.seats lent es v (shown_ink m d)) (rw c.in-Some.is refl) t;
      twins = subst (λ (v : Option (List (Answered Viewing))). TwinsAgree (setting m b.frame) b.seats lent es v) (rw c.in-Some.is refl) w;
    }
