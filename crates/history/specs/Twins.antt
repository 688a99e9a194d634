-- Twin histories: dots give way to their images.
use Rattle.std.specs.Prelude.{◌≡◌, ℕ, ◌⊎◌, List, [], ◌∷◌, map, length, Some, None, Option}
use Rattle.plane.specs.declared.cell.Cell.{Cell}
use Rattle.plane.specs.Cells.{Within}
use Rattle.plane.specs.Operation.{Operation, carry}
use Rattle.views.specs.Tints.{tinted}
use Rattle.ledger.specs.Feeding.{Setting}
use Rattle.history.specs.declared.calls.Drawing.{Drawing}
use Rattle.history.specs.declared.calls.Drawing.TheVariants.{Dot, Line, Look as Looks}
use Rattle.history.specs.declared.calls.Viewing.{Viewing}
use Rattle.history.specs.declared.calls.Answer.{Answer}
use Rattle.history.specs.declared.calls.Answered.{Answered}
use Rattle.history.specs.Histories.{Lent, drawing_calls, Told}

-- a dot within the span may give way to an image of it within the span, with the counterpart ink if the operation is odd
abbrev pub TwinCall : Setting → Drawing → Drawing → Type 0
TwinCall s (Dot p ink) d =
    (Dot p ink ≡ d)
    ⊎ ((g : Operation) × s.operations g × Within s.span p × Within s.span (carry g p) × (Dot (carry g p) (tinted g.odd ink) ≡ d))
TwinCall s (Line p q ink) d = Line p q ink ≡ d
TwinCall s (Looks look) d = Looks look ≡ d

abbrev pub TwinCalls : Setting → List Drawing → List Drawing → Type 0
TwinCalls s [] [] = Unit {0}
TwinCalls s [] (d ∷ ds) = ⊥
TwinCalls s (c ∷ cs) [] = ⊥
TwinCalls s (c ∷ cs) (d ∷ ds) = TwinCall s c d × TwinCalls s cs ds

abbrev pub drawing_answers : List (Answered Drawing) → List (Option Answer)
drawing_answers = map (λ e. e.answer)

abbrev pub viewing_calls : Option (List (Answered Viewing)) → Option (List Viewing)
viewing_calls None = None
viewing_calls (Some vs) = Some (map (λ e. e.call) vs)

abbrev pub viewing_answers : Option (List (Answered Viewing)) → Option (List (Option Answer))
viewing_answers None = None
viewing_answers (Some vs) = Some (map (λ e. e.answer) vs)

-- two histories that were lent the same palette and outputs of one length: the same answers, and from the same output the same bytes
pub record Agree (lent : Lent) (drawing : List (Answered Drawing)) (viewing : Option (List (Answered Viewing))) (lent' : Lent) (drawing' : List (Answered Drawing)) (viewing' : Option (List (Answered Viewing))) : Type 0 where
  pub drawn : drawing_answers drawing ≡ drawing_answers drawing'
  pub viewed : viewing_answers viewing ≡ viewing_answers viewing'
  pub bytes : lent.before ≡ lent'.before → lent.after ≡ lent'.after

-- every twin of the history that is told agrees with it
abbrev pub TwinsAgree : Setting → ℕ → Lent → List (Answered Drawing) → Option (List (Answered Viewing)) → Type 0
TwinsAgree s seats lent drawing viewing =
    (lent' : Lent) (drawing' : List (Answered Drawing)) (viewing' : Option (List (Answered Viewing))) (ink' : Cell → ℕ)
    → TwinCalls s (drawing_calls drawing) (drawing_calls drawing') → viewing_calls viewing ≡ viewing_calls viewing'
    → lent.palette ≡ lent'.palette → length lent.before ≡ length lent'.before
    → Told s seats lent' drawing' viewing' ink' → Agree lent drawing viewing lent' drawing' viewing'
