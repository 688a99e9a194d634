-- Cells laid one after another: what comes of them all, told by what comes of the rest.
use Rattle.std.proofs.Common.{◌≡◌, ℕ, ◌+◌, Bool, true, false, cond, List, [], ◌∷◌, Some, None, Ok, Err, Option, sym, refl, ap, ◌∙◌, subst, add-zero, arith}
use Rattle.plane.specs.declared.cell.Cell.{Cell}
use Rattle.plane.specs.Meaning.{Meaning}
use Rattle.canvas.specs.declared.refusal.PutRefused.{PutRefused}
use Rattle.canvas.specs.Board.{Board, put_refusal, unless, with_ink}
use Rattle.sheet.specs.declared.mark.Mark.{Mark}
use Rattle.sheet.specs.declared.refusal.LayRefused.{LayRefused}
use Rattle.sheet.specs.declared.refusal.LayRefused.TheVariants.{Clash}
use Rattle.sheet.specs.Laying.{Laid, by_canvas, clashes, home_ink, lay_all, lay_answer, lay_board, lay_next, lay_refusal}

-- the whole is what comes from here on, after n cells that were laid
pub record Ahead (whole : Laid) (n : ℕ) (here : Laid) : Type 0 where
  pub count : whole.count ≡ n + here.count
  pub stop : whole.stop ≡ here.stop
  pub board : whole.board ≡ here.board

-- at the start
pub ahead_none : (whole : Laid) → Ahead whole 0 whole
ahead_none whole = record { count = omega arith; stop = refl; board = refl }

-- the answer of a laying tells its refusal
pub lay_none : (o : Option LayRefused) (u : Unit {0}) → Ok u ≡ lay_answer o → o ≡ None
lay_none (Some why) u e = cc
lay_none None u e = refl

pub lay_some : (o : Option LayRefused) (why : LayRefused) → Err why ≡ lay_answer o → o ≡ Some why
lay_some (Some w) why e = cc
lay_some None why e = cc

-- what is refused leaves the board as it was
kept : (t : Bool) (o : Option PutRefused) (b c : Board) (why : LayRefused) → cond t (Some Clash) (by_canvas o) ≡ Some why → cond t b (unless o b c) ≡ b
kept true o b c why e = refl
kept false (Some w) b c why e = refl
kept false None b c why e = cc

pub stays : (m : Meaning) (b : Board) (p : Cell) (mark : Mark) (why : LayRefused) → lay_refusal m b p mark ≡ Some why → lay_board m b p mark ≡ b
stays m b p mark why e = kept (clashes m p mark) (put_refusal b (m.home p) (home_ink m p mark)) b (with_ink b (m.home p) (home_ink m p mark)) why e

module _ (m : Meaning) (mark : Mark) (whole : Laid) (n : ℕ) (b : Board) (left : List Cell) (ahead : Ahead whole n (lay_all m b mark left)) where
  module _ (p : Cell) (rest : List Cell) (is : left ≡ p ∷ rest) where
    at_next : (r : Option LayRefused) → lay_refusal m b p mark ≡ r → Ahead whole n (lay_next r b (lay_all m (lay_board m b p mark) mark rest))
    at_next r e = subst (Ahead whole n) (ap (lay_all m b mark) is ∙ ap (λ o. lay_next o b (lay_all m (lay_board m b p mark) mark rest)) e) ahead

    -- a cell was laid
    pub ahead_more : (u : Unit {0}) (c : Board) → Ok u ≡ lay_answer (lay_refusal m b p mark) → c ≡ lay_board m b p mark → Ahead whole (n + 1) (lay_all m c mark rest)
    ahead_more u c e f =
        let t = at_next None (lay_none (lay_refusal m b p mark) u e) in
        let next : Laid = lay_all m (lay_board m b p mark) mark rest in
        let k : whole.count ≡ n + 1 + next.count = omega (arith, t.count) in
        let made : Ahead whole (n + 1) next = record { count = k; stop = t.stop; board = t.board } in
        subst (λ z. Ahead whole (n + 1) (lay_all m z mark rest)) (sym f) made

    -- a cell was not laid
    pub ahead_stop : (why : LayRefused) → Err why ≡ lay_answer (lay_refusal m b p mark) → (n ≡ whole.count) × (Some why ≡ whole.stop) × (lay_board m b p mark ≡ whole.board)
    ahead_stop why e =
        let refused = lay_some (lay_refusal m b p mark) why e in
        let t = at_next (Some why) refused in
        (sym (t.count ∙ add-zero n), sym t.stop, stays m b p mark why refused ∙ sym t.board)

  -- all were laid
  pub ahead_end : left ≡ [] → (n ≡ whole.count) × (None ≡ whole.stop) × (b ≡ whole.board)
  ahead_end h =
      let t = subst (λ qs. Ahead whole n (lay_all m b mark qs)) h ahead in
      (sym (t.count ∙ add-zero n), sym t.stop, sym t.board)
