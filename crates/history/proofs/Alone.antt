-- One list of calls leads to one page, whatever the calls are said to have answered.
use Rattle.std.proofs.Common.{◌≡◌, ℕ, List, [], ◌∷◌, length, Option, sym, ◌∙◌, subst}
use Rattle.lines.specs.Lines.{line_cells}
use Rattle.sheet.specs.Laying.{marked}
use Rattle.ledger.specs.Feeding.{Setting}
use Rattle.ledger.specs.Striking.{Page}
use Rattle.ledger.proofs.Single.{strikes_one}
use Rattle.history.specs.declared.calls.Drawing.{Drawing}
use Rattle.history.specs.declared.calls.Drawing.TheVariants.{Dot, Line, Look as Looks}
use Rattle.history.specs.declared.calls.Answer.{Answer}
use Rattle.history.specs.declared.calls.Answered.{Answered}
use Rattle.history.specs.Histories.{Lent, past, drawing_room, Draws, DrawsAll, drawing_calls}

module _ (s : Setting) (lent lent' : Lent) where
  draws_one : (at at' : ℕ) (A B C : Page) (call : Drawing) (x y : Option Answer) → Draws s lent at A call x B → Draws s lent' at' A call y C → B ≡ C
  draws_one at at' A B C (Dot p ink) x y h k = strikes_one s p p (p ∷ []) (marked ink) A B C h.0 k.0 h.1 k.1
  draws_one at at' A B C (Line p q ink) x y h k = strikes_one s p q (line_cells p q) (marked ink) A B C h.0 k.0 h.1 k.1
  draws_one at at' A B C (Looks look) x y h k = h.0 ∙ sym k.0

  pub draws_all_one : (es fs : List (Answered Drawing)) (at at' end end' : ℕ) (A B C : Page) → drawing_calls es ≡ drawing_calls fs → DrawsAll s lent at A es end B → DrawsAll s lent' at' A fs end' C → B ≡ C
  draws_all_one [] [] at at' end end' A B C c h k = h.1 ∙ sym k.1
  draws_all_one [] (f ∷ fs) at at' end end' A B C c h k = cc
  draws_all_one (e ∷ es) [] at at' end end' A B C c h k = cc
  draws_all_one (e ∷ es) (f ∷ fs) at at' end end' A B C c h k =
      let first : e.call ≡ f.call = cc in
      let rest : drawing_calls es ≡ drawing_calls fs = cc in
      let next = past (length lent'.before) at' (drawing_room f.call) in
      let one : h.0 ≡ k.0 = draws_one at at' A h.0 k.0 e.call e.answer f.answer h.1 (subst (λ (z : Drawing). Draws s lent' at' A z f.answer k.0) (sym first) k.1) in
      draws_all_one es fs (past (length lent.before) at (drawing_room e.call)) next end end' h.0 B C rest h.2 (subst (λ (M : Page). DrawsAll s lent' next M fs end' C) (sym one) k.2)
