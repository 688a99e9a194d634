-- What a write into an area's bytes does to its board.
use Rattle.std.proofs.Common.{◌≡◌, ℕ, ◌+◌, ◌^◌, ◌<◌, ◌≤◌, true, false, cond, ◌≢◌, ◌⊎◌, List, length, get_or, drop, set, Some, Option, sym, ap, ◌∙◌, subst, inl, inr, arith, length-set, get_or-set_other, get_or-set_same}
use Rattle.std.proofs.lemmas.List.{drop-set-lt}
use Rattle.std.proofs.lemmas.Bool.{cond-true, cond-false, cases_eq, cases_Bool}
use Rattle.plane.specs.declared.cell.Cell.{Cell}
use Rattle.plane.specs.Cells.{same}
use Rattle.canvas.specs.Board.{Board, with_ink, held_after}
use Rattle.canvas.specs.Tally.{mark, tally}
use Rattle.canvas.proofs.Answering.{Takes, takes_held, takes_free}
use Rattle.canvas.proofs.Sameness.{Decided, same_decides}
use Rattle.canvas.proofs.Tallies.{tally_le, tally_change, tally_room, counts}
use Rattle.dense.specs.declared.area.Area.{Area}
use Rattle.dense.specs.Area.{covers, place, size, area_board, Inked, inked}
use Rattle.dense.specs.AreaLaws.{cell_at, cell_of, place_below, ink_in, ink_out}
use Rattle.dense.specs.Area.{place_if}
use Rattle.dense.proofs.Places.{covered}

pub few_held : (a : Area) (bytes : List ℕ) (n : ℕ) → size a + 1 < 2 ^ 32 → n ≡ inked a bytes → n + 1 < 2 ^ 32
few_held a bytes n few c = omega (arith, tally_le (λ i. get_or bytes i 0) (size a))

module _ (a : Area) (bytes : List ℕ) (n : ℕ) where
  abbrev here : Board
  here = area_board a bytes n

  -- a covered cell is held, or there is a seat for it
  pub takes : (p : Cell) (ink : ℕ) → ink ≤ 15 → covers a p ≡ true → n ≡ inked a bytes → Takes here p ink
  takes p ink h t c = go (cases_eq (here.inks p) 0)
    where
      go : (here.inks p ≡ 0) ⊎ (here.inks p ≡ 0 → ⊥) → Takes here p ink
      go (inl z) =
          let room : tally (λ i. get_or bytes i 0) (size a) < size a = tally_room (λ i. get_or bytes i 0) (place a p) (size a) (place_below a p t) (sym (ink_in a bytes n p t) ∙ z) in
          takes_free here p ink h t (omega arith)
      go (inr z) = takes_held here p ink h t z

  module _ (p : Cell) (ink : ℕ) (t : covers a p ≡ true) (long : size a ≤ length bytes) where
    abbrev after : List ℕ
    after = set bytes (place a p) ink

    in_range : place a p < length bytes
    in_range = let l : place a p < size a = place_below a p t in omega arith

    ink_after : (q : Cell) → Decided q p (same q p) → (covers a q ≡ true) ⊎ (covers a q ≡ false) → cond (covers a q) (get_or after (place a q) 0) 0 ≡ cond (same q p) ink (here.inks q)
    ink_after q (inl d) w =
        let i : covers a q ≡ true = ap (covers a) d.1 ∙ t in
        cond-true (covers a q) _ _ i ∙ ap (λ r. get_or after (place a r) 0) d.1 ∙ get_or-set_same bytes (place a p) ink 0 in_range ∙ sym (cond-true (same q p) _ _ d.0)
    ink_after q (inr d) (inl i) =
        let apart : place a q ≢ place a p = λ e. d.1 (cell_of a q i ∙ ap (cell_at a) e ∙ sym (cell_of a p t)) in
        cond-true (covers a q) _ _ i ∙ get_or-set_other bytes (place a p) (place a q) ink 0 apart ∙ sym (ink_in a bytes n q i) ∙ sym (cond-false (same q p) _ _ d.0)
    ink_after q (inr d) (inr o) = cond-false (covers a q) _ _ o ∙ sym (ink_out a bytes n q o) ∙ sym (cond-false (same q p) _ _ d.0)

    pub board_after : (m : ℕ) → m ≡ held_after (get_or bytes (place a p) 0) ink n → area_board a after m ≡ with_ink here p ink
    board_after m e =
        let h : m ≡ held_after (here.inks p) ink n = e ∙ ap (λ k. held_after k ink n) (sym (ink_in a bytes n p t)) in
        λ i. record {
          inks = λ q. ink_after q (same_decides q p) (cases_Bool (covers a q)) i;
          frame = λ q. covers a q;
          seats = size a;
          held = h i;
        }

    pub inked_after : Inked a bytes → ink ≤ 15 → Inked a after
    inked_after small l k b = go (cases_eq k (place a p))
      where
        go : (k ≡ place a p) ⊎ (k ≡ place a p → ⊥) → get_or after k 0 ≤ 15
        go (inl e) = subst (λ v. v ≤ 15) (sym (ap (λ j. get_or after j 0) e ∙ get_or-set_same bytes (place a p) ink 0 in_range)) l
        go (inr e) = subst (λ v. v ≤ 15) (sym (get_or-set_other bytes (place a p) k ink 0 e)) (small k b)

    pub count_after : (m : ℕ) → n ≡ inked a bytes → m ≡ held_after (get_or bytes (place a p) 0) ink n → m ≡ inked a after
    count_after m c e =
        let f : ℕ → ℕ = λ k. get_or bytes k 0 in
        let g : ℕ → ℕ = λ k. get_or after k 0 in
        let old : tally g (size a) + mark (f (place a p)) ≡ tally f (size a) + mark (g (place a p)) = tally_change f g (place a p) (size a) (λ k d. get_or-set_other bytes (place a p) k ink 0 d) (place_below a p t) in
        let now-ink : g (place a p) ≡ ink = get_or-set_same bytes (place a p) ink 0 in_range in
        let eq : tally g (size a) + mark (f (place a p)) ≡ tally f (size a) + mark ink = old ∙ ap (λ v. tally f (size a) + mark v) now-ink in
        e ∙ ap (λ k. held_after (get_or bytes (place a p) 0) ink k) c ∙ sym (counts (f (place a p)) ink (tally g (size a)) (tally f (size a)) eq)

-- what a put leaves in the bytes, where i is the cell's place and m the new count
pub record Written (a : Area) (bytes : List ℕ) (n : ℕ) (p : Cell) (ink m i : ℕ) : Type 0 where
  pub takes : Takes (area_board a bytes n) p ink
  pub board : area_board a (set bytes i ink) m ≡ with_ink (area_board a bytes n) p ink
  pub long : size a ≤ length (set bytes i ink)
  pub small : Inked a (set bytes i ink)
  pub counted : m ≡ inked a (set bytes i ink)
  pub rest : drop (size a) (set bytes i ink) ≡ drop (size a) bytes

pub writes : (a : Area) (bytes : List ℕ) (n : ℕ) (p : Cell) (ink m i : ℕ) → size a ≤ length bytes → Inked a bytes → n ≡ inked a bytes → ink ≤ 15 → ◌≡◌ {A = Option ℕ} (Some i) (place_if a p) → m ≡ held_after (get_or bytes i 0) ink n → Written a bytes n p ink m i
writes a bytes n p ink m i long small counted low e =
    let s = covered a p i e in
    let t : covers a p ≡ true = s.0 in
    subst (λ k. m ≡ held_after (get_or bytes k 0) ink n → Written a bytes n p ink m k) s.1 (λ h. record {
      takes = takes a bytes n p ink low t counted;
      board = board_after a bytes n p ink t long m h;
      long = simp length-set long;
      small = inked_after a bytes n p ink t long small low;
      counted = count_after a bytes n p ink t long m counted h;
      rest = drop-set-lt (size a) bytes (place a p) ink (place_below a p t);
    })
