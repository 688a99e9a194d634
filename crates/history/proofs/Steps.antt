-- One call: it answers and writes what the ledger tells, and leaves a board that keeps the page after it.
use Rattle.std.proofs.Common.{◌≡◌, ℕ, ◌≤◌, Bool, true, false, cond, not, ◌||◌, eqb, ltb, List, [], ◌∷◌, length, take, drop, ℤ, nat_abs, Some, None, sym, refl, ap, ◌∙◌, subst, subst₂, arith, length-append, length-drop}
use Rattle.std.proofs.lemmas.Bool.{ltb-false}
use Rattle.std.proofs.lemmas.List.{drop-drop}
use Rattle.plane.specs.declared.cell.Cell.{Cell}
use Rattle.plane.specs.Cells.{all_inside}
use Rattle.plane.specs.Meaning.{Meaning}
use Rattle.canvas.specs.Board.{Board}
use Rattle.lines.proofs.Cells.{line_within}
use Rattle.views.specs.declared.refusal.WindowRefused.TheVariants.{Side, OffSpan, Palette, Output}
use Rattle.views.specs.Shows.{shown}
use Rattle.plane.specs.Rectangles.{window_cells, wrong_side}
use Rattle.views.specs.Windows.{picture, picture_size, window_answer, written_over, unless_refused, window_output, placed}
use Rattle.views.proofs.Pixels.{picture-length}
use Rattle.sheet.specs.Laying.{marked}
use Rattle.ledger.specs.Ledgers.{Ledger}
use Rattle.ledger.specs.Feeding.{Setting, setting}
use Rattle.ledger.specs.Striking.{Page}
use Rattle.ledger.specs.Looking.{Paints}
use Rattle.ledger.proofs.Classes.{Classes}
use Rattle.ledger.proofs.Homes.{Follows}
use Rattle.ledger.proofs.Keeping.{Keeps}
use Rattle.ledger.proofs.Strokes.{striking}
use Rattle.ledger.proofs.Sights.{showing, painting}
use Rattle.ledger.proofs.Counted.{fewest}
use Rattle.history.specs.declared.calls.Look.{Look}
use Rattle.history.specs.declared.calls.Look.TheVariants.{Show, Window as Windows}
use Rattle.history.specs.declared.calls.Drawing.{Drawing}
use Rattle.history.specs.declared.calls.Drawing.TheVariants.{Dot, Line, Look as Looks}
use Rattle.history.specs.declared.calls.Viewing.{Viewing}
use Rattle.history.specs.declared.calls.Viewing.TheVariants.{Look as LooksBack, Quote as Quotes}
use Rattle.history.specs.declared.calls.Answer.{Answer}
use Rattle.history.specs.Histories.{Lent, part, past, look_room, drawing_room, viewing_room, Seen, Draws, Views}
use Rattle.history.specs.Outright.{look_answer, look_output, draw_answer, draw_strokes, draw_board, draw_output, view_answer, view_output}
use Rattle.history.proofs.Parts.{patch, part_front, drop_past}

-- a window leaves its output as long as it was
pub window_long : (m : Meaning) (b : Board) (corner : Cell) (width height : ℤ) (palette output : List ℕ) → length (window_output m b corner width height palette output) ≡ length output
window_long m b corner width height palette output =
    go (wrong_side width || wrong_side height) (all_inside m.span (window_cells corner (nat_abs width) (nat_abs height))) (eqb (length palette) 48) (ltb (length output) (picture_size (nat_abs width) (nat_abs height))) refl
  where
    over : picture_size (nat_abs width) (nat_abs height) ≤ length output → length (written_over (picture m b palette corner (nat_abs width) (nat_abs height)) output) ≡ length output
    over h =
        let bytes : List ℕ = picture m b palette corner (nat_abs width) (nat_abs height) in
        let e : length bytes ≡ picture_size (nat_abs width) (nat_abs height) = picture-length m b palette corner (nat_abs width) (nat_abs height) in
        let k : length bytes ≤ length output = subst (λ n. n ≤ length output) (sym e) h in
        omega (arith, length-append bytes (drop (length bytes) output), length-drop (length bytes) output)

    go : (p q r t : Bool) → ltb (length output) (picture_size (nat_abs width) (nat_abs height)) ≡ t → length (unless_refused (cond p (Some Side) (cond (not q) (Some OffSpan) (cond (not r) (Some Palette) (cond t (Some Output) None)))) output (written_over (picture m b palette corner (nat_abs width) (nat_abs height)) output)) ≡ length output
    go true q r t e = refl
    go false false r t e = refl
    go false true false t e = refl
    go false true true true e = refl
    go false true true false e = over (ltb-false (length output) (picture_size (nat_abs width) (nat_abs height)) e)

-- every call leaves its part as long as it was
look_long : (m : Meaning) (b : Board) (palette : List ℕ) (look : Look) (bytes : List ℕ) → length (look_output m b palette look bytes) ≡ length bytes
look_long m b palette (Show q) bytes = refl
look_long m b palette (Windows w) bytes = window_long m b w.rectangle.corner w.rectangle.width w.rectangle.height (take w.palette palette) bytes

pub draw_long : (m : Meaning) (b : Board) (palette : List ℕ) (call : Drawing) (bytes : List ℕ) → length (draw_output m b palette call bytes) ≡ length bytes
draw_long m b palette (Dot p ink) bytes = refl
draw_long m b palette (Line p q ink) bytes = refl
draw_long m b palette (Looks look) bytes = look_long m b palette look bytes

pub view_long : (m : Meaning) (b : Board) (palette : List ℕ) (call : Viewing) (bytes : List ℕ) → length (view_output m b palette call bytes) ≡ length bytes
view_long m b palette (LooksBack look) bytes = look_long m b palette look bytes
view_long m b palette Quotes bytes = refl

-- the output so far: up to a place it may have changed, from there on it is as it was
pub record Reached (before : List ℕ) (at : ℕ) (out : List ℕ) : Type 0 where
  pub near : at ≤ length before
  pub long : length out ≡ length before
  pub rest : drop at out ≡ drop at before

module _ (palette before : List ℕ) where
  abbrev pub lending : List ℕ → Lent
  lending after = record { palette = palette; before = before; after = after }

  -- every end of the output that agrees with a start
  abbrev pub Onward : ℕ → List ℕ → (List ℕ → Type 0) → Type 0
  Onward at out P = (fin : List ℕ) → length fin ≡ length before → take at fin ≡ take at out → P fin

  module _ (at : ℕ) (out : List ℕ) (so_far : Reached before at out) where
    -- a part of n bytes more
    pub record Moved (n : ℕ) (more : List ℕ) : Type 0 where
      pub early : take at more ≡ take at out
      pub reached : Reached before (past (length before) at n) more

    part_same : (n : ℕ) → part at n out ≡ part at n before
    part_same n = ap (take n) so_far.rest

    moved : (n : ℕ) (new : List ℕ) → length new ≡ length (part at n out) → Moved n (placed out at new)
    moved n new e =
        let p = patch at n new out (subst (λ k. at ≤ k) (sym so_far.long) so_far.near) e in
        let long : length (placed out at new) ≡ length before = p.long ∙ so_far.long in
        record {
          early = p.early;
          reached = record {
            near = omega arith;
            long = long;
            rest = drop_past (placed out at new) (length before) at n long ∙ p.late ∙ sym (drop-drop n at out) ∙ ap (drop n) so_far.rest ∙ drop-drop n at before ∙ sym (drop_past before (length before) at n refl);
          };
        }

    module _ (m : Meaning) (frame : Cell → Bool) (cl : Classes m) where
      abbrev here : Setting
      here = setting m frame

      look_seen : (L : Ledger) (b : Board) → Follows m L b.inks → (look : Look) → let bytes = part at (look_room look) out in let more = placed out at (look_output m b palette look bytes) in Onward (past (length before) at (look_room look)) more (λ fin. Seen here (lending fin) at L look (Some (look_answer m b palette look bytes)))
      look_seen L b follows (Show q) fin long e = (shown m b q, showing m frame cl L b follows q, refl)
      look_seen L b follows (Windows w) fin long e =
          let bytes : List ℕ = part at w.output out in
          let inks : List ℕ = take w.palette palette in
          let new : List ℕ = window_output m b w.rectangle.corner w.rectangle.width w.rectangle.height inks bytes in
          let answer = window_answer m w.rectangle.corner w.rectangle.width w.rectangle.height inks bytes in
          let p = patch at w.output new out (subst (λ k. at ≤ k) (sym so_far.long) so_far.near) (window_long m b w.rectangle.corner w.rectangle.width w.rectangle.height inks bytes) in
          let after : part at w.output fin ≡ new = part_front fin (placed out at new) (length before) at w.output long (p.long ∙ so_far.long) e ∙ p.here in
          let told : Paints here L w.rectangle.corner w.rectangle.width w.rectangle.height inks bytes new answer = painting m frame cl L b follows w.rectangle.corner w.rectangle.width w.rectangle.height inks bytes in
          (answer, subst₂ (λ (xs ys : List ℕ). Paints here L w.rectangle.corner w.rectangle.width w.rectangle.height inks xs ys answer) (part_same w.output) (sym after) told, refl)

      -- one call on an open sheet, from page A
      pub record Stepped (call : Drawing) (A : Page) (answer : Answer) (strokes : ℕ) (b : Board) (more : List ℕ) : Type 0 where
        pub after : Page
        pub keeps : Keeps m frame after.seats after.ledger b
        pub count : after.strokes ≡ strokes
        pub moved : Moved (drawing_room call) more
        pub draws : Onward (past (length before) at (drawing_room call)) more (λ fin. Draws here (lending fin) at A call (Some answer) after)

      draw_moved : (b : Board) (call : Drawing) → Moved (drawing_room call) (placed out at (draw_output m b palette call (part at (drawing_room call) out)))
      draw_moved b call = moved (drawing_room call) (draw_output m b palette call (part at (drawing_room call) out)) (draw_long m b palette call (part at (drawing_room call) out))

      pub stepping : (call : Drawing) (A : Page) (b : Board) → Keeps m frame A.seats A.ledger b → let bytes = part at (drawing_room call) out in Stepped call A (draw_answer m A.strokes b palette call bytes) (draw_strokes m A.strokes b call) (draw_board m A.strokes b call) (placed out at (draw_output m b palette call bytes))
      stepping (Dot p ink) A b keeps =
          let t = striking m frame cl (marked ink) p p (p ∷ []) A b (λ w. (w.0, tt)) keeps in
          record { after = t.after; keeps = t.keeps; count = t.strokes; moved = draw_moved b (Dot p ink); draws = λ fin long e. (_, t.strikes, refl) }
      stepping (Line p q ink) A b keeps =
          let t = striking m frame cl (marked ink) p q _ A b (λ w. line_within p q m.span w.0 w.1) keeps in
          record { after = t.after; keeps = t.keeps; count = t.strokes; moved = draw_moved b (Line p q ink); draws = λ fin long e. (_, t.strikes, refl) }
      stepping (Looks look) A b keeps =
          record { after = A; keeps = keeps; count = refl; moved = draw_moved b (Looks look); draws = λ fin long e. (refl, look_seen A.ledger b keeps.follows look fin long e) }

      -- one call on a sheet that was closed at page A
      pub record Seeing (call : Viewing) (A : Page) (answer : Answer) (more : List ℕ) : Type 0 where
        pub moved : Moved (viewing_room call) more
        pub views : Onward (past (length before) at (viewing_room call)) more (λ fin. Views here (lending fin) at A call (Some answer))

      view_moved : (b : Board) (call : Viewing) → Moved (viewing_room call) (placed out at (view_output m b palette call (part at (viewing_room call) out)))
      view_moved b call = moved (viewing_room call) (view_output m b palette call (part at (viewing_room call) out)) (view_long m b palette call (part at (viewing_room call) out))

      pub seeing : (call : Viewing) (A : Page) (b : Board) → Keeps m frame A.seats A.ledger b → let bytes = part at (viewing_room call) out in Seeing call A (view_answer m b.held A.strokes b palette call bytes) (placed out at (view_output m b palette call bytes))
      seeing (LooksBack look) A b keeps = record { moved = view_moved b (LooksBack look); views = look_seen A.ledger b keeps.follows look }
      seeing Quotes A b keeps =
          let t = keeps.laws.counted in
          record { moved = view_moved b Quotes; views = λ fin long e. (b.held, fewest m cl A.ledger b.inks keeps.follows t.0 b.held t.1 t.2, refl) }
