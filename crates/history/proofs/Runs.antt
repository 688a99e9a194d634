-- A run of the calls keeps the board, the sheet and the output together with the ledger, and every answer is told by it.
use Rattle.std.proofs.Common.{◌≡◌, ℕ, ◌+◌, ◌-◌, ◌<◌, ◌≤◌, Bool, List, [], ◌∷◌, ◌++◌, length, take, drop, set, Some, None, sym, refl, ap, ◌∙◌, subst, subst₂, arith}
use borrow.Rule.Slice.PartMut.{put_mid}
use Rattle.std.proofs.lemmas.List.{take_more_set}
use Rattle.plane.specs.declared.cell.Cell.{Cell}
use Rattle.plane.specs.Meaning.{Meaning}
use Rattle.canvas.specs.Board.{Board, cleared}
use Rattle.views.specs.Shows.{shown_ink}
use Rattle.views.specs.Windows.{placed}
use Rattle.ledger.specs.Feeding.{Setting, setting}
use Rattle.ledger.specs.Striking.{Page, blank}
use Rattle.ledger.proofs.Classes.{Classes}
use Rattle.ledger.proofs.Keeping.{Keeps, keeps_none}
use Rattle.ledger.proofs.Shown.{shows}
use Rattle.history.specs.declared.calls.Drawing.{Drawing}
use Rattle.history.specs.declared.calls.Viewing.{Viewing}
use Rattle.history.specs.declared.calls.Answer.{Answer}
use Rattle.history.specs.declared.calls.Answered.{Answered}
use Rattle.history.specs.Histories.{Lent, part, past, drawing_room, viewing_room, Draws, Views, DrawsAll, ViewsAll, drawing_calls, Told}
use Rattle.history.specs.Outright.{draw_answer, draw_strokes, draw_board, draw_output, view_answer, view_output}
use Rattle.history.proofs.Parts.{past_on, front_front}
use Rattle.history.proofs.Alone.{draws_all_one}
use Rattle.history.proofs.Painted.{cut_part, put_part}
use Rattle.history.proofs.Steps.{Reached, lending, Onward, draw_long, view_long, stepping, seeing}

-- one call more at the end
draws_more : (s : Setting) (lent : Lent) (at mid : ℕ) (A B C : Page) (es : List (Answered Drawing)) (e : Answered Drawing) → DrawsAll s lent at A es mid B → Draws s lent mid B e.call e.answer C → DrawsAll s lent at A (es ++ (e ∷ [])) (past (length lent.before) mid (drawing_room e.call)) C
draws_more s lent at mid A B C [] e h d = (C, subst₂ (λ (n : ℕ) (P : Page). Draws s lent n P e.call e.answer C) h.0 h.1 d, (ap (λ n. past (length lent.before) n (drawing_room e.call)) h.0, refl))
draws_more s lent at mid A B C (f ∷ es) e h d = (h.0, h.1, draws_more s lent (past (length lent.before) at (drawing_room f.call)) mid h.0 B C es e h.2 d)

views_more : (s : Setting) (lent : Lent) (at mid : ℕ) (A : Page) (es : List (Answered Viewing)) (e : Answered Viewing) → ViewsAll s lent at A es mid → Views s lent mid A e.call e.answer → ViewsAll s lent at A (es ++ (e ∷ [])) (past (length lent.before) mid (viewing_room e.call))
views_more s lent at mid A [] e h v = (subst (λ n. Views s lent n A e.call e.answer) h v, ap (λ n. past (length lent.before) n (viewing_room e.call)) h)
views_more s lent at mid A (f ∷ es) e h v = (h.0, views_more s lent (past (length lent.before) at (viewing_room f.call)) mid A es e h.1 v)

module _ (m : Meaning) (frame : Cell → Bool) (seats : ℕ) (palette before : List ℕ) where
  abbrev here : Setting
  here = setting m frame

  -- after some calls on the open sheet: its strokes, the board, and the output up to a place
  pub record Along (es : List (Answered Drawing)) (strokes : ℕ) (b : Board) (at : ℕ) (out : List ℕ) : Type 0 where
    pub page : Page
    pub keeps : Keeps m frame page.seats page.ledger b
    pub count : page.strokes ≡ strokes
    pub reached : Reached before at out
    pub drawn : Onward palette before at out (λ fin. DrawsAll here (lending palette before fin) 0 (blank seats) es at page)

  -- after all those calls and some on the closed sheet
  pub record Beyond (es : List (Answered Drawing)) (vs : List (Answered Viewing)) (held strokes : ℕ) (b : Board) (at : ℕ) (out : List ℕ) : Type 0 where
    pub page : Page
    pub middle : ℕ
    pub keeps : Keeps m frame page.seats page.ledger b
    pub count : page.strokes ≡ strokes
    pub counted : b.held ≡ held
    pub reached : Reached before at out
    pub drawn : Onward palette before at out (λ fin. DrawsAll here (lending palette before fin) 0 (blank seats) es middle page)
    pub viewed : Onward palette before at out (λ fin. ViewsAll here (lending palette before fin) middle page vs at)

  -- when the sheet is closed
  pub closed : (es : List (Answered Drawing)) (strokes : ℕ) (b : Board) (at : ℕ) (out : List ℕ) → Along es strokes b at out → Beyond es [] b.held strokes b at out
  closed es strokes b at out a = record {
    page = a.page;
    middle = at;
    keeps = a.keeps;
    count = a.count;
    counted = refl;
    reached = a.reached;
    drawn = a.drawn;
    viewed = λ fin long e. refl;
  }

  module _ (cl : Classes m) where
    along_more : (es : List (Answered Drawing)) (strokes : ℕ) (b : Board) (at : ℕ) (out : List ℕ) (call : Drawing) → Along es strokes b at out → Along (es ++ (record { call = call; answer = Some (draw_answer m strokes b palette call (part at (drawing_room call) out)) } ∷ [])) (draw_strokes m strokes b call) (draw_board m strokes b call) (past (length before) at (drawing_room call)) (placed out at (draw_output m b palette call (part at (drawing_room call) out)))
    along_more es strokes b at out call a =
        let A : Page = a.page in
        let n : ℕ = A.strokes in
        let t = stepping palette before at out a.reached m frame cl call A b a.keeps in
        let entry : ℕ → Answered Drawing = λ k. record { call = call; answer = Some (draw_answer m k b palette call (part at (drawing_room call) out)) } in
        let far : at ≤ past (length before) at (drawing_room call) = past_on (length before) at (drawing_room call) a.reached.near in
        let made : Along (es ++ (entry n ∷ [])) (draw_strokes m n b call) (draw_board m n b call) (past (length before) at (drawing_room call)) (placed out at (draw_output m b palette call (part at (drawing_room call) out))) = record {
          page = t.after;
          keeps = t.keeps;
          count = t.count;
          reached = t.moved.reached;
          drawn = λ fin long e. draws_more here (lending palette before fin) 0 at (blank seats) A t.after es (entry n) (a.drawn fin long (front_front fin (placed out at (draw_output m b palette call (part at (drawing_room call) out))) at (past (length before) at (drawing_room call)) far e ∙ t.moved.early)) (t.draws fin long e);
        } in
        subst (λ k. Along (es ++ (entry k ∷ [])) (draw_strokes m k b call) (draw_board m k b call) (past (length before) at (drawing_room call)) (placed out at (draw_output m b palette call (part at (drawing_room call) out)))) a.count made

    -- the call at place i of the list is answered, with its part of the output as the code cuts it, and the next part begins where that one ends
    pub along_put : (xs : List (Answered Drawing)) (i : ℕ) (call : Drawing) (answer : Answer) (strokes strokes' : ℕ) (b b' : Board) (at end next room : ℕ) (out last : List ℕ) → i < length xs → Along (take i xs) strokes b at out → room ≡ drawing_room call → end ≡ past (length out) at room → next ≡ end → let bytes = take (end - at) (drop at out) in answer ≡ draw_answer m strokes b palette call bytes → strokes' ≡ draw_strokes m strokes b call → b' ≡ draw_board m strokes b call → last ≡ draw_output m b palette call bytes → Along (take (i + 1) (set xs i (record { call = call; answer = Some answer }))) strokes' b' next (put_mid at (end - at) out last)
    along_put xs i call answer strokes strokes' b b' at end next room out last h a er ee en ea es eb eo =
        let n : ℕ = drawing_room call in
        let new : List ℕ = draw_output m b palette call (part at n out) in
        let near : at ≤ length out = subst (λ k. at ≤ k) (sym a.reached.long) a.reached.near in
        let on : end ≡ past (length out) at n = ee ∙ ap (past (length out) at) er in
        let cut : take (end - at) (drop at out) ≡ part at n out = cut_part out at n end near on in
        let et : next ≡ past (length before) at n = en ∙ on ∙ ap (λ k. past k at n) a.reached.long in
        let el : put_mid at (end - at) out last ≡ placed out at new = put_part out at n end near on new last (eo ∙ ap (draw_output m b palette call) cut) (draw_long m b palette call (part at n out)) in
        let entry : Answered Drawing = record { call = call; answer = Some answer } in
        let made = along_more (take i xs) strokes b at out call a in
        let p1 : Along (take i xs ++ (entry ∷ [])) (draw_strokes m strokes b call) (draw_board m strokes b call) (past (length before) at n) (placed out at new) = subst (λ x. Along (take i xs ++ (record { call = call; answer = Some x } ∷ [])) (draw_strokes m strokes b call) (draw_board m strokes b call) (past (length before) at n) (placed out at new)) (sym (ea ∙ ap (draw_answer m strokes b palette call) cut)) made in
        let p2 : Along (take i xs ++ (entry ∷ [])) strokes' b' (past (length before) at n) (placed out at new) = subst₂ (λ (k : ℕ) (c : Board). Along (take i xs ++ (entry ∷ [])) k c (past (length before) at n) (placed out at new)) (sym es) (sym eb) p1 in
        let p3 : Along (take i xs ++ (entry ∷ [])) strokes' b' next (put_mid at (end - at) out last) = subst₂ (λ (k : ℕ) (o : List ℕ). Along (take i xs ++ (entry ∷ [])) strokes' b' k o) (sym et) (sym el) p2 in
        subst (λ es. Along es strokes' b' next (put_mid at (end - at) out last)) (sym (take_more_set xs i entry h)) p3

    beyond_more : (es : List (Answered Drawing)) (vs : List (Answered Viewing)) (held strokes : ℕ) (b : Board) (at : ℕ) (out : List ℕ) (call : Viewing) → Beyond es vs held strokes b at out → Beyond es (vs ++ (record { call = call; answer = Some (view_answer m held strokes b palette call (part at (viewing_room call) out)) } ∷ [])) held strokes b (past (length before) at (viewing_room call)) (placed out at (view_output m b palette call (part at (viewing_room call) out)))
    beyond_more es vs held strokes b at out call a =
        let A : Page = a.page in
        let more : List ℕ = placed out at (view_output m b palette call (part at (viewing_room call) out)) in
        let on : ℕ = past (length before) at (viewing_room call) in
        let t = seeing palette before at out a.reached m frame cl call A b a.keeps in
        let entry : ℕ → ℕ → Answered Viewing = λ k n. record { call = call; answer = Some (view_answer m k n b palette call (part at (viewing_room call) out)) } in
        let far : at ≤ past (length before) at (viewing_room call) = past_on (length before) at (viewing_room call) a.reached.near in
        let back : (fin : List ℕ) → take on fin ≡ take on more → take at fin ≡ take at out = λ fin e. front_front fin more at on far e ∙ t.moved.early in
        let viewed : Onward palette before on more (λ fin. ViewsAll here (lending palette before fin) a.middle A (vs ++ (entry b.held A.strokes ∷ [])) on) = λ fin long e. views_more here (lending palette before fin) a.middle at A vs (entry b.held A.strokes) (a.viewed fin long (back fin e)) (t.views fin long e) in
        record {
          page = A;
          middle = a.middle;
          keeps = a.keeps;
          count = a.count;
          counted = a.counted;
          reached = t.moved.reached;
          drawn = λ fin long e. a.drawn fin long (back fin e);
          viewed = λ fin long e. subst₂ (λ (k n : ℕ). ViewsAll here (lending palette before fin) a.middle A (vs ++ (entry k n ∷ [])) on) a.counted a.count (viewed fin long e);
        }

    pub beyond_put : (es : List (Answered Drawing)) (xs : List (Answered Viewing)) (j : ℕ) (call : Viewing) (answer : Answer) (held strokes : ℕ) (b : Board) (at end room : ℕ) (out last : List ℕ) → j < length xs → Beyond es (take j xs) held strokes b at out → room ≡ viewing_room call → end ≡ past (length out) at room → let bytes = take (end - at) (drop at out) in answer ≡ view_answer m held strokes b palette call bytes → last ≡ view_output m b palette call bytes → Beyond es (take (j + 1) (set xs j (record { call = call; answer = Some answer }))) held strokes b end (put_mid at (end - at) out last)
    beyond_put es xs j call answer held strokes b at end room out last h a er ee ea eo =
        let n : ℕ = viewing_room call in
        let new : List ℕ = view_output m b palette call (part at n out) in
        let near : at ≤ length out = subst (λ k. at ≤ k) (sym a.reached.long) a.reached.near in
        let on : end ≡ past (length out) at n = ee ∙ ap (past (length out) at) er in
        let cut : take (end - at) (drop at out) ≡ part at n out = cut_part out at n end near on in
        let et : end ≡ past (length before) at n = on ∙ ap (λ k. past k at n) a.reached.long in
        let el : put_mid at (end - at) out last ≡ placed out at new = put_part out at n end near on new last (eo ∙ ap (view_output m b palette call) cut) (view_long m b palette call (part at n out)) in
        let entry : Answered Viewing = record { call = call; answer = Some answer } in
        let made = beyond_more es (take j xs) held strokes b at out call a in
        let p1 : Beyond es (take j xs ++ (entry ∷ [])) held strokes b (past (length before) at n) (placed out at new) = subst (λ x. Beyond es (take j xs ++ (record { call = call; answer = Some x } ∷ [])) held strokes b (past (length before) at n) (placed out at new)) (sym (ea ∙ ap (view_answer m held strokes b palette call) cut)) made in
        let p2 : Beyond es (take j xs ++ (entry ∷ [])) held strokes b end (put_mid at (end - at) out last) = subst₂ (λ (k : ℕ) (o : List ℕ). Beyond es (take j xs ++ (entry ∷ [])) held strokes b k o) (sym et) (sym el) p1 in
        subst (λ vs. Beyond es vs held strokes b end (put_mid at (end - at) out last)) (sym (take_more_set xs j entry h)) p2

    alone : (es : List (Answered Drawing)) (end : ℕ) (A : Page) (out : List ℕ) → DrawsAll here (lending palette before out) 0 (blank seats) es end A → (lent' : Lent) (drawing' : List (Answered Drawing)) (end' : ℕ) (B : Page) → drawing_calls es ≡ drawing_calls drawing' → DrawsAll here lent' 0 (blank seats) drawing' end' B → A ≡ B
    alone es end A out d lent' drawing' end' B c k = draws_all_one here (lending palette before out) lent' es drawing' 0 0 end end' (blank seats) A B c d k

    -- a sheet that stays open
    pub told_open : (es : List (Answered Drawing)) (strokes : ℕ) (b : Board) (at : ℕ) (out : List ℕ) → Along es strokes b at out → Told here seats (lending palette before out) es None (shown_ink m b)
    told_open es strokes b at out a = record {
      page = a.page;
      middle = at;
      end = at;
      drawn = a.drawn out a.reached.long refl;
      alone = alone es at a.page out (a.drawn out a.reached.long refl);
      viewed = refl;
      shows = λ q w. shows m cl a.page.ledger b.inks a.keeps.follows q w;
      rest = a.reached.rest;
      long = a.reached.long;
    }

    -- a sheet that was closed
    pub told_closed : (es : List (Answered Drawing)) (vs : List (Answered Viewing)) (held strokes : ℕ) (b : Board) (at : ℕ) (out : List ℕ) → Beyond es vs held strokes b at out → Told here seats (lending palette before out) es (Some vs) (shown_ink m b)
    told_closed es vs held strokes b at out a = record {
      page = a.page;
      middle = a.middle;
      end = at;
      drawn = a.drawn out a.reached.long refl;
      alone = alone es a.middle a.page out (a.drawn out a.reached.long refl);
      viewed = a.viewed out a.reached.long refl;
      shows = λ q w. shows m cl a.page.ledger b.inks a.keeps.follows q w;
      rest = a.reached.rest;
      long = a.reached.long;
    }

-- a sheet that was just opened
pub along_none : (m : Meaning) (b : Board) (palette before : List ℕ) → Along m b.frame b.seats palette before [] 0 (cleared b) 0 before
along_none m b palette before = record {
  page = blank b.seats;
  keeps = keeps_none m b;
  count = refl;
  reached = record { near = omega arith; long = refl; rest = refl };
  drawn = λ fin long e. (refl, refl);
}

pub along_open : (m : Meaning) (b c : Board) (palette before : List ℕ) (strokes : ℕ) → c ≡ cleared b → strokes ≡ 0 → Along m b.frame b.seats palette before [] strokes c 0 before
along_open m b c palette before strokes e z =
    subst₂ (λ (d : Board) (n : ℕ). Along m b.frame b.seats palette before [] n d 0 before) (sym e) (sym z) (along_none m b palette before)
