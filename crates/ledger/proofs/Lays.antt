-- Laying a cell keeps the board and the ledger together: it stops as the ledger says, or the board keeps the ledger with the cell laid.
use Rattle.std.proofs.Common.{◌≡◌, ℕ, ◌+◌, ◌<◌, ◌≤◌, Bool, true, false, cond, not, eqb, ◌⊎◌, List, [], ◌∷◌, length, Some, None, Option, sym, refl, ap, ◌∙◌, inl, inr, arith}
use Rattle.std.proofs.lemmas.Bool.{cases_lt, cases_eq, ne_eqb, eqb-false, and_from, and_parts, not-true, not_from_false, both_ways}
use Rattle.plane.specs.declared.cell.Cell.{Cell}
use Rattle.plane.specs.Cells.{AllWithin, Within, same}
use Rattle.plane.specs.Meaning.{Meaning}
use Rattle.plane.specs.Laws.{Neutral}
use Rattle.canvas.specs.declared.refusal.PutRefused.{PutRefused}
use Rattle.canvas.specs.declared.refusal.PutRefused.TheVariants.{Ink, Frame, Seats}
use Rattle.canvas.specs.Inks.{counterpart, top_ink}
use Rattle.canvas.specs.Board.{Board, put_refusal, put_board, with_ink, unless}
use Rattle.canvas.proofs.Boards.{put_laws}
use Rattle.sheet.specs.declared.mark.Mark.{Mark}
use Rattle.sheet.specs.declared.refusal.LayRefused.{LayRefused}
use Rattle.sheet.specs.declared.refusal.LayRefused.TheVariants.{Clash, Canvas}
use Rattle.views.specs.Tints.{neutral}
use Rattle.sheet.specs.Laying.{home_ink, clashes, by_canvas, lay_refusal, lay_board, lay_all, lay_next, Laid}
use Rattle.ledger.specs.Ledgers.{Ledger}
use Rattle.ledger.specs.Feeding.{Setting, setting, Taken, Clashes, Stops, Adds}
use Rattle.views.proofs.Shown.{tinted-small}
use Rattle.ledger.proofs.Inks.{tinted_colours, colours_tinted}
use Rattle.ledger.proofs.Classes.{flips, Classes}
use Rattle.ledger.proofs.Puts.{Put, outside, full, done, put_cases}
use Rattle.ledger.proofs.Keeping.{Keeps, taken_iff, is_full, not_full}

module _ (m : Meaning) (frame : Cell → Bool) (cl : Classes m) (seats : ℕ) (mark : Mark) (small : mark.ink ≤ top_ink) where
  abbrev here : Setting
  here = setting m frame

  module _ (L : Ledger) (b : Board) (keeps : Keeps m frame seats L b) (p : Cell) (within : Within m.span p) where
    abbrev laid : Ledger
    laid = record { cell = p; mark = mark } ∷ L

    abbrev ink : ℕ
    ink = home_ink m p mark

    -- what laying the cell comes to, said of the ledger, by what refused it and the board after it
    abbrev pub Came : Option LayRefused → Board → Type 0
    Came (Some why) c = Stops here seats L p mark why
    Came None c = ((why : LayRefused) → Stops here seats L p mark why → ⊥) × Keeps m frame seats laid c

    framed_at : b.frame (m.home p) ≡ frame (m.home p)
    framed_at = ap (λ (f : Cell → Bool). f (m.home p)) keeps.framed

    bare_untaken : b.inks (m.home p) ≡ 0 → Taken m.home L (m.home p) → ⊥
    bare_untaken z t = let k : 0 < b.inks (m.home p) = (taken_iff m frame seats L b keeps (m.home p)).1 t in omega arith

    untaken_bare : (Taken m.home L (m.home p) → ⊥) → b.inks (m.home p) ≡ 0
    untaken_bare n = go (cases_lt 0 (b.inks (m.home p)))
      where
        go : (0 < b.inks (m.home p)) ⊎ (b.inks (m.home p) ≤ 0) → b.inks (m.home p) ≡ 0
        go (inl k) = absurd (n ((taken_iff m frame seats L b keeps (m.home p)).0 k))
        go (inr k) = omega arith

    -- nothing stops a cell that does not clash, whose home is in the frame and finds a seat
    no_stop : (Clashes m.operations p mark → ⊥) → b.frame (m.home p) ≡ true → (0 < ink → b.inks (m.home p) ≡ 0 → b.held < b.seats) → (why : LayRefused) → Stops here seats L p mark why → ⊥
    no_stop calm f room Clash s = calm s
    no_stop calm f room (Canvas Ink) s = s
    no_stop calm f room (Canvas Frame) s = both_ways (frame (m.home p)) s.1 (sym framed_at ∙ f)
    no_stop calm f room (Canvas Seats) s = not_full m frame seats L b keeps (room (tinted_colours (flips m p) mark.ink s.2) (untaken_bare s.3)) s.4

    -- the board with the cell laid
    keeps_more : (Clashes m.operations p mark → ⊥) → b.frame (m.home p) ≡ true → (0 < ink → b.inks (m.home p) ≡ 0 → b.held < b.seats) → Keeps m frame seats laid (with_ink b (m.home p) ink)
    keeps_more calm f room = record {
      follows = record {
        sound = ((within, λ n. own n (cases_eq (counterpart mark.ink) mark.ink)), keeps.follows.sound);
        left = λ h. ap (cond (same h (m.home p)) ink) (keeps.follows.left h);
      };
      laws = put_laws b (m.home p) ink keeps.laws (tinted-small (flips m p) mark.ink small) f room;
      framed = keeps.framed;
      seated = keeps.seated;
    }
      where
        own : Neutral m.operations p → (counterpart mark.ink ≡ mark.ink) ⊎ (counterpart mark.ink ≡ mark.ink → ⊥) → counterpart mark.ink ≡ mark.ink
        own n (inl e) = e
        own n (inr e) = absurd (calm (n, e))

    by_put : (Clashes m.operations p mark → ⊥) → (o : Option PutRefused) → Put b (m.home p) ink o → Came (by_canvas o) (unless o b (with_ink b (m.home p) ink))
    by_put calm (Some why) (outside f) = (calm, sym framed_at ∙ f)
    by_put calm (Some why) (full f a z k) = (calm, sym framed_at ∙ f, colours_tinted (flips m p) mark.ink a, bare_untaken z, is_full m frame seats L b keeps k)
    by_put calm None (done f room) = (no_stop calm f room, keeps_more calm f room)

    clash_is : clashes m p mark ≡ true → Clashes m.operations p mark
    clash_is e =
        let t = and_parts (neutral (m.kinds p)) (not (eqb (counterpart mark.ink) mark.ink)) e in
        (cl.mixes p within t.0, eqb-false (counterpart mark.ink) mark.ink (not-true _ t.1))

    is_clash : Clashes m.operations p mark → clashes m p mark ≡ true
    is_clash c = and_from (neutral (m.kinds p)) (not (eqb (counterpart mark.ink) mark.ink)) (cl.mixed p within c.0) (not_from_false _ (ne_eqb (counterpart mark.ink) mark.ink c.1))

    pub laying : Came (lay_refusal m b p mark) (lay_board m b p mark)
    laying = go (clashes m p mark) refl
      where
        go : (t : Bool) → clashes m p mark ≡ t → Came (cond t (Some Clash) (by_canvas (put_refusal b (m.home p) ink))) (cond t b (put_board b (m.home p) ink))
        go true e = clash_is e
        go false e = by_put (λ c. both_ways (clashes m p mark) e (is_clash c)) (put_refusal b (m.home p) ink) (put_cases b (m.home p) ink (tinted-small (flips m p) mark.ink small))

  -- what laying cells comes to: a ledger that they were added to, and a board that keeps it
  pub record Strung (ps : List Cell) (L : Ledger) (o : Laid) : Type 0 where
    pub ledger : Ledger
    pub adds : Adds here seats mark ps L ledger o.stop
    pub count : length ledger ≡ length L + o.count
    pub keeps : Keeps m frame seats ledger o.board

  pub stringing : (ps : List Cell) (L : Ledger) (b : Board) → AllWithin m.span ps → Keeps m frame seats L b → Strung ps L (lay_all m b mark ps)
  stringing [] L b all keeps = record { ledger = L; adds = (refl, refl); count = omega arith; keeps = keeps }
  stringing (p ∷ ps) L b all keeps =
      go (λ M c. stringing ps M c all.1) (lay_refusal m b p mark) (lay_board m b p mark) (laying L b keeps p all.0)
    where
      go : ((M : Ledger) (c : Board) → Keeps m frame seats M c → Strung ps M (lay_all m c mark ps)) → (o : Option LayRefused) (c : Board) → Came L b keeps p all.0 o c → Strung (p ∷ ps) L (lay_next o b (lay_all m c mark ps))
      go rest (Some why) c came = record { ledger = L; adds = inl (why, came, refl, refl); count = omega arith; keeps = keeps }
      go rest None c came =
          let s = rest (record { cell = p; mark = mark } ∷ L) c came.1 in
          record { ledger = s.ledger; adds = inr (came.0, s.adds); count = omega (arith, s.count); keeps = s.keeps }
