-- A show and a window on a board that keeps a ledger answer and write what the ledger tells.
use Rattle.std.proofs.Common.{◌≡◌, ℕ, Bool, true, false, cond, not, ◌||◌, eqb, ltb, List, [], ◌∷◌, ◌++◌, length, ℤ, pos, nat_abs, ◌≤ℤ◌, Some, None, Ok, Option, sym, refl, ap, inl, inr, arith}
use lib.Signed.{lt_z}
use borrow.Author.Differences.{ints}
use Rattle.std.proofs.lemmas.Bool.{both_ways, or_parts, or_from, eqb-true, eqb-false, ltb-true, ltb-false}
use Rattle.plane.specs.declared.cell.Cell.{Cell}
use Rattle.plane.specs.Cells.{AllWithin, all_inside, inside}
use Rattle.plane.specs.Meaning.{Meaning}
use Rattle.plane.proofs.Folding.{inside_within, outside}
use Rattle.canvas.specs.Board.{Board}
use Rattle.views.specs.declared.refusal.WindowRefused.{WindowRefused}
use Rattle.views.specs.declared.refusal.WindowRefused.TheVariants.{Side, OffSpan, Palette, Output}
use Rattle.views.specs.Shows.{shown, shown_if, shown_ink}
use Rattle.plane.specs.Rectangles.{window_cells, wrong_side}
use Rattle.views.specs.Windows.{header, pixels, picture_size, window_refusal, windowed, window_answer, written_over, unless_refused, window_output}
use Rattle.plane.proofs.Rectangles.{all_within, within_all}
use Rattle.views.proofs.Pixels.{picture-length}
use Rattle.ledger.specs.Ledgers.{Ledger}
use Rattle.ledger.specs.Feeding.{Setting, setting}
use Rattle.ledger.specs.Looking.{ShowsAt, Pixels, Sized, BothSized, Spanned, Denies, Paints}
use Rattle.ledger.proofs.Classes.{Classes}
use Rattle.ledger.proofs.Homes.{Follows}
use Rattle.ledger.proofs.Shown.{shows}

not_below : (a b : ℤ) → lt_z a b ≡ false → b ≤ℤ a
not_below a b e = grind (arith, ints)

below_not : (a b : ℤ) → b ≤ℤ a → lt_z a b ≡ false
below_not a b h = grind (arith, ints)

side_sized : (z : ℤ) → wrong_side z ≡ false → Sized z
side_sized z e = let t = or_parts (lt_z z (pos 1)) (lt_z (pos 128) z) e in (not_below z (pos 1) t.0, not_below (pos 128) z t.1)

sized_side : (z : ℤ) → Sized z → wrong_side z ≡ false
sized_side z s = or_from (lt_z z (pos 1)) (lt_z (pos 128) z) (below_not z (pos 1) s.0) (below_not (pos 128) z s.1)

-- ---- why a window is refused
module _ (m : Meaning) (frame : Cell → Bool) (corner : Cell) (width height : ℤ) (palette output : ℕ) where
  abbrev here : Setting
  here = setting m frame

  abbrev Denied : Option WindowRefused → Type 0
  Denied (Some why) = Denies here corner width height palette output why
  Denied None = ((why : WindowRefused) → Denies here corner width height palette output why → ⊥) × Spanned here corner width height

  abbrev sides : Bool
  sides = wrong_side width || wrong_side height

  abbrev spans : Bool
  spans = all_inside m.span (window_cells corner (nat_abs width) (nat_abs height))

  abbrev size : ℕ
  size = picture_size (nat_abs width) (nat_abs height)

  right : sides ≡ false → BothSized width height
  right e = let t = or_parts (wrong_side width) (wrong_side height) e in (side_sized width t.0, side_sized height t.1)

  wrong : sides ≡ true → BothSized width height → ⊥
  wrong e s = both_ways sides (or_from (wrong_side width) (wrong_side height) (sized_side width s.0) (sized_side height s.1)) e

  spanned : spans ≡ true → Spanned here corner width height
  spanned = all_within m.span (window_cells corner (nat_abs width) (nat_abs height))

  unspanned : spans ≡ false → Spanned here corner width height → ⊥
  unspanned e w = both_ways spans e (within_all m.span (window_cells corner (nat_abs width) (nat_abs height)) w)

  pub denying : Denied (window_refusal m.span corner width height palette output)
  denying = go sides spans (eqb palette 48) (ltb output size) refl refl refl refl
    where
      go : (a b c d : Bool) → sides ≡ a → spans ≡ b → eqb palette 48 ≡ c → ltb output size ≡ d → Denied (cond a (Some Side) (cond (not b) (Some OffSpan) (cond (not c) (Some Palette) (cond d (Some Output) None))))
      go true b c d ea eb ec ed = wrong ea
      go false false c d ea eb ec ed = (right ea, unspanned eb)
      go false true false d ea eb ec ed = (right ea, spanned eb, eqb-false palette 48 ec)
      go false true true true ea eb ec ed = (right ea, spanned eb, eqb-true palette 48 ec, ltb-true output size ed)
      go false true true false ea eb ec ed = (clear, spanned eb)
        where
          clear : (why : WindowRefused) → Denies here corner width height palette output why → ⊥
          clear Side h = h (right ea)
          clear OffSpan h = h.1 (spanned eb)
          clear Palette h = h.2 (eqb-true palette 48 ec)
          clear Output h = omega (arith, ltb-false output size ed)

-- ---- what is shown
module _ (m : Meaning) (frame : Cell → Bool) (cl : Classes m) (L : Ledger) (b : Board) (follows : Follows m L b.inks) where
  pub showing : (q : Cell) → ShowsAt (setting m frame) L q (shown m b q)
  showing q = go (inside m.span q) refl
    where
      go : (t : Bool) → inside m.span q ≡ t → ShowsAt (setting m frame) L q (shown_if t (shown_ink m b q))
      go true e = let w = inside_within m.span q e in inl (w, (shown_ink m b q, shows m cl L b.inks follows q w, refl))
      go false e = inr (outside m.span q e, refl)

  pixels-shown : (palette : List ℕ) (qs : List Cell) → AllWithin m.span qs → Pixels m.operations L palette qs (pixels m b palette qs)
  pixels-shown palette [] w = refl
  pixels-shown palette (q ∷ qs) w =
      (shown_ink m b q, pixels m b palette qs, shows m cl L b.inks follows q w.0, refl, pixels-shown palette qs w.1)

  pub painting : (corner : Cell) (width height : ℤ) (palette before : List ℕ) → Paints (setting m frame) L corner width height palette before (window_output m b corner width height palette before) (window_answer m corner width height palette before)
  painting corner width height palette before =
      go (window_refusal m.span corner width height (length palette) (length before)) (denying m frame corner width height (length palette) (length before))
    where
      go : (o : Option WindowRefused) → Denied m frame corner width height (length palette) (length before) o → Paints (setting m frame) L corner width height palette before (unless_refused o before (written_over (header (nat_abs width) (nat_abs height) ++ pixels m b palette (window_cells corner (nat_abs width) (nat_abs height))) before)) (windowed o (picture_size (nat_abs width) (nat_abs height)))
      go (Some why) h = inl (why, h, refl, refl)
      go None h = inr (h.0, (pixels m b palette (window_cells corner (nat_abs width) (nat_abs height)), pixels-shown palette (window_cells corner (nat_abs width) (nat_abs height)) h.1, refl, ap (λ (n : ℕ). Ok n) (sym (picture-length m b palette corner (nat_abs width) (nat_abs height)))))
