-- Twin histories get the same answers and the same bytes.
use Rattle.std.proofs.Common.{◌≡◌, ℕ, Bool, List, [], ◌∷◌, ◌++◌, map, length, take, drop, Some, None, Option, Result, sym, refl, ap, ◌∙◌, subst, ap₂, subst₂, inl, inr}
use Rattle.plane.specs.declared.cell.Cell.{Cell}
use Rattle.plane.specs.declared.fold.FoldRefused.{FoldRefused}
use Rattle.plane.specs.Operation.{carry}
use Rattle.plane.specs.Meaning.{Meaning}
use Rattle.lines.specs.Lines.{line_cells}
use Rattle.lines.proofs.Cells.{line_within}
use Rattle.views.specs.declared.refusal.WindowRefused.{WindowRefused}
use Rattle.views.specs.Tints.{tinted}
use Rattle.sheet.specs.declared.refusal.StrokeStopped.{StrokeStopped}
use Rattle.sheet.specs.Laying.{marked}
use Rattle.ledger.specs.Ledgers.{Ledger}
use Rattle.ledger.specs.Feeding.{Setting, setting}
use Rattle.ledger.specs.Striking.{Page, blank}
use Rattle.ledger.specs.Looking.{Paints}
use Rattle.ledger.proofs.Classes.{Classes}
use Rattle.ledger.proofs.Twins.{Ledgers}
use Rattle.ledger.proofs.TwinStrokes.{Pages, same_stroke, twin_dots}
use Rattle.ledger.proofs.TwinSights.{fewest_twin, shows_at_twin, paints_twin}
use Rattle.history.specs.declared.calls.Look.{Look}
use Rattle.history.specs.declared.calls.Look.TheVariants.{Show, Window as Windows}
use Rattle.history.specs.declared.calls.Drawing.{Drawing}
use Rattle.history.specs.declared.calls.Drawing.TheVariants.{Dot, Line, Look as Looks}
use Rattle.history.specs.declared.calls.Viewing.{Viewing}
use Rattle.history.specs.declared.calls.Viewing.TheVariants.{Look as LooksBack, Quote as Quotes}
use Rattle.history.specs.declared.calls.Answer.{Answer}
use Rattle.history.specs.declared.calls.Answer.TheVariants.{Stroked, Shown, Windowed, Quoted}
use Rattle.history.specs.declared.calls.Answered.{Answered}
use Rattle.history.specs.Histories.{Lent, part, past, look_room, drawing_room, viewing_room, Seen, Draws, Views, DrawsAll, ViewsAll, Closing, drawing_calls, Told}
use Rattle.history.specs.Twins.{TwinCall, TwinCalls, Agree, TwinsAgree, drawing_answers, viewing_calls, viewing_answers}
use Rattle.history.proofs.Parts.{part_long, part_rest}

module _ (m : Meaning) (frame : Cell → Bool) (cl : Classes m) (lent lent' : Lent) (palettes : lent.palette ≡ lent'.palette) (lengths : length lent.before ≡ length lent'.before) where
  abbrev here : Setting
  here = setting m frame

  -- equal outputs before make equal parts after
  abbrev Same : ℕ → ℕ → Type 0
  Same at n = lent.before ≡ lent'.before → part at n lent.after ≡ part at n lent'.after

  seen_twin : (at : ℕ) (L M : Ledger) → Ledgers m L M → (look : Look) (x y : Option Answer) → Seen here lent at L look x → Seen here lent' at M look y → (x ≡ y) × Same at (look_room look)
  seen_twin at L M twins (Show q) x y h k =
      (h.2 ∙ ap (λ (z : Result ℕ FoldRefused). Some (Shown z)) (shows_at_twin m cl frame L M twins q h.0 k.0 h.1 k.1) ∙ sym k.2, λ e. refl)
  seen_twin at L M twins (Windows w) x y h k =
      let k' : Paints here M w.rectangle.corner w.rectangle.width w.rectangle.height (take w.palette lent.palette) (part at w.output lent'.before) (part at w.output lent'.after) k.0 = subst (λ (c : List ℕ). Paints here M w.rectangle.corner w.rectangle.width w.rectangle.height (take w.palette c) (part at w.output lent'.before) (part at w.output lent'.after) k.0) (sym palettes) k.1 in
      let t = paints_twin m cl frame L M twins w.rectangle.corner w.rectangle.width w.rectangle.height (take w.palette lent.palette) (part at w.output lent.before) (part at w.output lent'.before) (part at w.output lent.after) (part at w.output lent'.after) h.0 k.0 (part_long lent.before lent'.before at w.output lengths) h.1 k' in
      (h.2 ∙ ap (λ (z : Result ℕ WindowRefused). Some (Windowed z)) t.0 ∙ sym k.2, λ e. t.1 (ap (part at w.output) e))

  -- a call and its twin, from twin pages
  record Step (at : ℕ) (c d : Drawing) (B B' : Page) (x y : Option Answer) : Type 0 where
    pages : Pages m B B'
    answers : x ≡ y
    rooms : drawing_room c ≡ drawing_room d
    bytes : Same at (drawing_room c)

  stroked : (at : ℕ) (c d : Drawing) (B B' : Page) (x y : Option Answer) (u v : Result ℕ StrokeStopped) → drawing_room c ≡ 0 → drawing_room d ≡ 0 → Pages m B B' × (u ≡ v) → x ≡ Some (Stroked u) → y ≡ Some (Stroked v) → Step at c d B B' x y
  stroked at c d B B' x y u v zc zd t ex ey = record {
    pages = t.0;
    answers = ex ∙ ap (λ (z : Result ℕ StrokeStopped). Some (Stroked z)) t.1 ∙ sym ey;
    rooms = zc ∙ sym zd;
    bytes = λ e. ap (λ n. part at n lent.after) zc ∙ sym (ap (λ n. part at n lent'.after) zc);
  }

  draws_twin : (at : ℕ) (c d : Drawing) (A A' B B' : Page) (x y : Option Answer) → TwinCall here c d → Pages m A A' → Draws here lent at A c x B → Draws here lent' at A' d y B' → Step at c d B B' x y
  draws_twin at (Looks look) d A A' B B' x y t e h k =
      let k' : Draws here lent' at A' (Looks look) y B' = subst (λ (z : Drawing). Draws here lent' at A' z y B') (sym t) k in
      let s = seen_twin at A.ledger A'.ledger e.ledgers look x y h.1 k'.1 in
      record { pages = subst₂ (Pages m) (sym h.0) (sym k'.0) e; answers = s.0; rooms = ap drawing_room t; bytes = s.1 }
  draws_twin at (Line p q i) d A A' B B' x y t e h k =
      let k' : Draws here lent' at A' (Line p q i) y B' = subst (λ (z : Drawing). Draws here lent' at A' z y B') (sym t) k in
      stroked at (Line p q i) d B B' x y h.0 k'.0 refl (sym (ap drawing_room t)) (same_stroke m frame cl p q (line_cells p q) (marked i) A A' B B' h.0 k'.0 (λ w. line_within p q m.span w.0 w.1) e h.1 k'.1) h.2 k'.2
  draws_twin at (Dot p i) d A A' B B' x y (inl t) e h k =
      let k' : Draws here lent' at A' (Dot p i) y B' = subst (λ (z : Drawing). Draws here lent' at A' z y B') (sym t) k in
      stroked at (Dot p i) d B B' x y h.0 k'.0 refl (sym (ap drawing_room t)) (same_stroke m frame cl p p (p ∷ []) (marked i) A A' B B' h.0 k'.0 (λ w. (w.0, tt)) e h.1 k'.1) h.2 k'.2
  draws_twin at (Dot p i) d A A' B B' x y (inr t) e h k =
      let q : Cell = carry t.0 p in
      let j : ℕ = tinted t.0.odd i in
      let k' : Draws here lent' at A' (Dot q j) y B' = subst (λ (z : Drawing). Draws here lent' at A' z y B') (sym t.4) k in
      stroked at (Dot p i) d B B' x y h.0 k'.0 refl (sym (ap drawing_room t.4)) (twin_dots m frame cl p q (marked i) (marked j) t.0.odd A A' B B' h.0 k'.0 (record { from = t.2; to = t.3; goes = (t.0, t.1, refl, refl); marks = refl }) e h.1 k'.1) h.2 k'.2

  module _ (long : length lent.after ≡ length lent.before) (long' : length lent'.after ≡ length lent'.before) where
    -- the rest of the outputs is equal after a part if it is from there on
    abbrev Rest : ℕ → ℕ → Type 0
    Rest at end = lent.before ≡ lent'.before → drop end lent.after ≡ drop end lent'.after → drop at lent.after ≡ drop at lent'.after

    rest_more : (at n end : ℕ) → Same at n → Rest (past (length lent.before) at n) end → Rest at end
    rest_more at n end same more e r =
        part_rest lent.after (length lent.before) at n long ∙ ap₂ (λ (xs ys : List ℕ). xs ++ ys) (same e) (more e r) ∙ sym (part_rest lent'.after (length lent.before) at n (long' ∙ sym lengths))

    record Steps (at end end' : ℕ) (cs ds : List (Answered Drawing)) (B B' : Page) : Type 0 where
      pages : Pages m B B'
      answers : drawing_answers cs ≡ drawing_answers ds
      ends : end ≡ end'
      rest : Rest at end

    draws_all_twin : (cs ds : List (Answered Drawing)) (at end end' : ℕ) (A A' B B' : Page) → TwinCalls here (drawing_calls cs) (drawing_calls ds) → Pages m A A' → DrawsAll here lent at A cs end B → DrawsAll here lent' at A' ds end' B' → Steps at end end' cs ds B B'
    draws_all_twin [] [] at end end' A A' B B' t e h k = record {
      pages = subst₂ (Pages m) (sym h.1) (sym k.1) e;
      answers = refl;
      ends = h.0 ∙ sym k.0;
      rest = λ _ r. subst (λ n. drop n lent.after ≡ drop n lent'.after) h.0 r;
    }
    draws_all_twin [] (d ∷ ds) at end end' A A' B B' t e h k = absurd t
    draws_all_twin (c ∷ cs) [] at end end' A A' B B' t e h k = absurd t
    draws_all_twin (c ∷ cs) (d ∷ ds) at end end' A A' B B' t e h k =
        let one = draws_twin at c.call d.call A A' h.0 k.0 c.answer d.answer t.0 e h.1 k.1 in
        let on : past (length lent'.before) at (drawing_room d.call) ≡ past (length lent.before) at (drawing_room c.call) = ap₂ (λ n r. past n at r) (sym lengths) (sym one.rooms) in
        let k' : DrawsAll here lent' (past (length lent.before) at (drawing_room c.call)) k.0 ds end' B' = subst (λ n. DrawsAll here lent' n k.0 ds end' B') on k.2 in
        let all = draws_all_twin cs ds (past (length lent.before) at (drawing_room c.call)) end end' h.0 k.0 B B' t.1 one.pages h.2 k' in
        record {
          pages = all.pages;
          answers = ap₂ (λ (x : Option Answer) (xs : List (Option Answer)). x ∷ xs) one.answers all.answers;
          ends = all.ends;
          rest = rest_more at (drawing_room c.call) end one.bytes all.rest;
        }

    views_twin : (at : ℕ) (A A' : Page) → Pages m A A' → (call : Viewing) (x y : Option Answer) → Views here lent at A call x → Views here lent' at A' call y → (x ≡ y) × Same at (viewing_room call)
    views_twin at A A' e (LooksBack look) x y h k = seen_twin at A.ledger A'.ledger e.ledgers look x y h k
    views_twin at A A' e Quotes x y h k =
        (h.2 ∙ ap₂ (λ (a b : ℕ). Some (Quoted (record { held = a; strokes = b }))) (fewest_twin m cl A.ledger A'.ledger e.ledgers h.0 k.0 h.1 k.1) e.strokes ∙ sym k.2, λ _. refl)

    record Sights (at end end' : ℕ) (vs ws : List (Answered Viewing)) : Type 0 where
      answers : map (λ (v : Answered Viewing). v.answer) vs ≡ map (λ (v : Answered Viewing). v.answer) ws
      ends : end ≡ end'
      rest : Rest at end

    views_all_twin : (A A' : Page) → Pages m A A' → (vs ws : List (Answered Viewing)) (at end end' : ℕ) → map (λ (v : Answered Viewing). v.call) vs ≡ map (λ (v : Answered Viewing). v.call) ws → ViewsAll here lent at A vs end → ViewsAll here lent' at A' ws end' → Sights at end end' vs ws
    views_all_twin A A' e [] [] at end end' c h k = record { answers = refl; ends = h ∙ sym k; rest = λ _ r. subst (λ n. drop n lent.after ≡ drop n lent'.after) h r }
    views_all_twin A A' e [] (w ∷ ws) at end end' c h k = cc
    views_all_twin A A' e (v ∷ vs) [] at end end' c h k = cc
    views_all_twin A A' e (v ∷ vs) (w ∷ ws) at end end' c h k =
        let first : v.call ≡ w.call = cc in
        let others : map (λ (v : Answered Viewing). v.call) vs ≡ map (λ (v : Answered Viewing). v.call) ws = cc in
        let one = views_twin at A A' e v.call v.answer w.answer h.0 (subst (λ (z : Viewing). Views here lent' at A' z w.answer) (sym first) k.0) in
        let on : past (length lent'.before) at (viewing_room w.call) ≡ past (length lent.before) at (viewing_room v.call) = ap₂ (λ n r. past n at r) (sym lengths) (ap viewing_room (sym first)) in
        let k' : ViewsAll here lent' (past (length lent.before) at (viewing_room v.call)) A' ws end' = subst (λ n. ViewsAll here lent' n A' ws end') on k.1 in
        let all = views_all_twin A A' e vs ws (past (length lent.before) at (viewing_room v.call)) end end' others h.1 k' in
        record {
          answers = ap₂ (λ (x : Option Answer) (xs : List (Option Answer)). x ∷ xs) one.0 all.answers;
          ends = all.ends;
          rest = rest_more at (viewing_room v.call) end one.1 all.rest;
        }

    record Ending (at end end' : ℕ) (vs ws : Option (List (Answered Viewing))) : Type 0 where
      answers : viewing_answers vs ≡ viewing_answers ws
      ends : end ≡ end'
      rest : Rest at end

    closing_twin : (A A' : Page) → Pages m A A' → (vs ws : Option (List (Answered Viewing))) (at end end' : ℕ) → viewing_calls vs ≡ viewing_calls ws → Closing here lent at A vs end → Closing here lent' at A' ws end' → Ending at end end' vs ws
    closing_twin A A' e None None at end end' c h k = record { answers = refl; ends = h ∙ sym k; rest = λ _ r. subst (λ n. drop n lent.after ≡ drop n lent'.after) h r }
    closing_twin A A' e None (Some ws) at end end' c h k = cc
    closing_twin A A' e (Some vs) None at end end' c h k = cc
    closing_twin A A' e (Some vs) (Some ws) at end end' c h k =
        let calls : map (λ (v : Answered Viewing). v.call) vs ≡ map (λ (v : Answered Viewing). v.call) ws = cc in
        let all = views_all_twin A A' e vs ws at end end' calls h k in
        record { answers = ap (λ (xs : List (Option Answer)). Some xs) all.answers; ends = all.ends; rest = all.rest }

-- a told history agrees with each of its twins
pub twins_agree : (m : Meaning) (frame : Cell → Bool) → Classes m → (seats : ℕ) (lent : Lent) (drawing : List (Answered Drawing)) (viewing : Option (List (Answered Viewing))) (ink : Cell → ℕ) → Told (setting m frame) seats lent drawing viewing ink → TwinsAgree (setting m frame) seats lent drawing viewing
twins_agree m frame cl seats lent drawing viewing ink t lent' drawing' viewing' ink' calls views palettes lengths u =
    let blanks : Pages m (blank seats) (blank seats) = record { ledgers = tt; strokes = refl; seats = refl } in
    let d = draws_all_twin m frame cl lent lent' palettes lengths t.long u.long drawing drawing' 0 t.middle u.middle (blank seats) (blank seats) t.page u.page calls blanks t.drawn u.drawn in
    let u' : Closing (setting m frame) lent' t.middle u.page viewing' u.end = subst (λ n. Closing (setting m frame) lent' n u.page viewing' u.end) (sym d.ends) u.viewed in
    let v = closing_twin m frame cl lent lent' palettes lengths t.long u.long t.page u.page d.pages viewing viewing' t.middle t.end u.end views t.viewed u' in
    record {
      drawn = d.answers;
      viewed = v.answers;
      bytes = λ e. d.rest e (v.rest e (t.rest ∙ ap (drop t.end) e ∙ ap (λ n. drop n lent'.before) v.ends ∙ sym u.rest ∙ sym (ap (λ n. drop n lent'.after) v.ends)));
    }

-- two told histories whose calls were twins when they were passed
pub both_agree : (m : Meaning) (frame frame' : Cell → Bool) (seats seats' : ℕ) (lent lent' : Lent) (given given' drawing drawing' : List (Answered Drawing)) (asked asked' viewing viewing' : Option (List (Answered Viewing))) (ink' : Cell → ℕ) → frame' ≡ frame → seats' ≡ seats → TwinCalls (setting m frame) (drawing_calls given) (drawing_calls given') → viewing_calls asked ≡ viewing_calls asked' → lent.palette ≡ lent'.palette → length lent.before ≡ length lent'.before → drawing_calls drawing ≡ drawing_calls given → drawing_calls drawing' ≡ drawing_calls given' → viewing_calls viewing ≡ viewing_calls asked → viewing_calls viewing' ≡ viewing_calls asked' → Told (setting m frame') seats' lent' drawing' viewing' ink' → TwinsAgree (setting m frame) seats lent drawing viewing → Agree lent drawing viewing lent' drawing' viewing'
both_agree m frame frame' seats seats' lent lent' given given' drawing drawing' asked asked' viewing viewing' ink' ef es calls views ep el ed ed' ev ev' told agree =
    agree lent' drawing' viewing' ink' (subst₂ (TwinCalls (setting m frame)) (sym ed) (sym ed') calls) (ev ∙ views ∙ sym ev') ep el (subst₂ (λ (f : Cell → Bool) (n : ℕ). Told (setting m f) n lent' drawing' viewing' ink') ef es told)
