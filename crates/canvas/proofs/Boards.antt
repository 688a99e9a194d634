-- A put and a clearing keep the laws of a board.
use Rattle.std.proofs.Common.{◌≡◌, ℕ, ◌+◌, ◌-◌, ◌<◌, ◌≤◌, true, ◌⊎◌, ◌↔◌, List, [], ◌∷◌, length, sym, refl, ◌∙◌, subst, inl, inr, arith}
use Rattle.std.proofs.lemmas.Bool.{cond-true, cond-false, cases_eq}
use Rattle.std.proofs.lemmas.Bool.Decides.{nat_tests}
use Rattle.plane.specs.declared.cell.Cell.{Cell}
use Rattle.plane.specs.Cells.{same}
use Rattle.canvas.specs.Board.{Board, BoardLaws, with_ink, held_after, cleared}
use Rattle.canvas.specs.Distinct.{Member, Lists}
use Rattle.canvas.proofs.Sameness.{Decided, same_decides}
use Rattle.canvas.proofs.Listing.{without, length_without, stays, within_rest, distinct_rest}

abbrev Marked : Board → Cell → Type 0
Marked b p = 0 < b.inks p

lists_like : (P Q : Cell → Type 0) (qs : List Cell) → ((p : Cell) → P p ↔ Q p) → Lists P qs → Lists Q qs
lists_like P Q qs same l = record { distinct = l.distinct; exact = λ p. (λ m. (same p).0 ((l.exact p).0 m), λ q. (l.exact p).1 ((same p).1 q)) }

module _ (b : Board) (p : Cell) (j : ℕ) where
  abbrev after : Board
  after = with_ink b p j

  either : (q : Cell) → ((q ≡ p) × (after.inks q ≡ j)) ⊎ ((q ≡ p → ⊥) × (after.inks q ≡ b.inks q))
  either q = go (same_decides q p)
    where
      go : Decided q p (same q p) → ((q ≡ p) × (after.inks q ≡ j)) ⊎ ((q ≡ p → ⊥) × (after.inks q ≡ b.inks q))
      go (inl d) = inl (d.1, cond-true (same q p) j (b.inks q) d.0)
      go (inr d) = inr (d.1, cond-false (same q p) j (b.inks q) d.0)

  abbrev Counted : Type 0
  Counted = (qs : List Cell) × Lists (Marked after) qs × (length qs ≡ after.held)

  module _ (laws : BoardLaws b) where
    -- the marks at every other cell stay
    unmoved : ((0 < b.inks p) ↔ (0 < j)) → (q : Cell) → Marked b q ↔ Marked after q
    unmoved at q = go (either q)
      where
        go : ((q ≡ p) × (after.inks q ≡ j)) ⊎ ((q ≡ p → ⊥) × (after.inks q ≡ b.inks q)) → Marked b q ↔ Marked after q
        go (inl d) = (λ k. subst (λ n. 0 < n) (sym d.1) (at.0 (subst (λ r. 0 < b.inks r) d.0 k)), λ k. subst (λ r. 0 < b.inks r) (sym d.0) (at.1 (subst (λ n. 0 < n) d.1 k)))
        go (inr d) = (λ k. subst (λ n. 0 < n) (sym d.1) k, λ k. subst (λ n. 0 < n) d.1 k)

    counted_by : (b.inks p ≡ 0) ⊎ (b.inks p ≡ 0 → ⊥) → (j ≡ 0) ⊎ (j ≡ 0 → ⊥) → Counted
    counted_by (inl a) (inl z) =
        let t = laws.counted in
        let same : held_after (b.inks p) j b.held ≡ b.held = grind (arith, nat_tests) in
        (t.0, lists_like (Marked b) (Marked after) t.0 (unmoved (λ k. absurd (omega arith), λ k. absurd (omega arith))) t.1, t.2 ∙ sym same)
    counted_by (inl a) (inr z) =
        let t = laws.counted in
        let more : held_after (b.inks p) j b.held ≡ b.held + 1 = grind (arith, nat_tests) in
        let new : Member p t.0 → ⊥ = λ m. let k : 0 < b.inks p = (t.1.exact p).0 m in omega arith in
        (p ∷ t.0, record { distinct = (new, t.1.distinct); exact = λ q. (λ m. forth q t.0 (t.1.exact q).0 m (either q), λ k. back q t.0 (t.1.exact q).1 k (either q)) }, long t.0 t.2 ∙ sym more)
      where
        some : 0 < j
        some = omega arith

        long : (qs : List Cell) → length qs ≡ b.held → length (p ∷ qs) ≡ b.held + 1
        long qs e = omega arith

        forth : (q : Cell) (qs : List Cell) → (Member q qs → 0 < b.inks q) → Member q (p ∷ qs) → ((q ≡ p) × (after.inks q ≡ j)) ⊎ ((q ≡ p → ⊥) × (after.inks q ≡ b.inks q)) → Marked after q
        forth q qs f (inl e) (inl d) = subst (λ n. 0 < n) (sym d.1) some
        forth q qs f (inl e) (inr d) = absurd (d.0 e)
        forth q qs f (inr m) (inl d) = subst (λ n. 0 < n) (sym d.1) some
        forth q qs f (inr m) (inr d) = subst (λ n. 0 < n) (sym d.1) (f m)

        back : (q : Cell) (qs : List Cell) → (0 < b.inks q → Member q qs) → Marked after q → ((q ≡ p) × (after.inks q ≡ j)) ⊎ ((q ≡ p → ⊥) × (after.inks q ≡ b.inks q)) → Member q (p ∷ qs)
        back q qs f k (inl d) = inl d.0
        back q qs f k (inr d) = inr (f (subst (λ n. 0 < n) d.1 k))
    counted_by (inr a) (inl z) =
        let t = laws.counted in
        let mem : Member p t.0 = (t.1.exact p).1 some in
        let less : held_after (b.inks p) j b.held ≡ b.held - 1 = grind (arith, nat_tests) in
        (without p t.0 mem, record { distinct = distinct_rest p t.0 mem t.1.distinct; exact = λ q. (λ m. forth q t.0 (t.1.exact q).0 (within_rest p t.0 mem t.1.distinct q m) (either q), λ k. back q t.0 mem (t.1.exact q).1 k (either q)) }, short t.0 mem t.2 ∙ sym less)
      where
        some : 0 < b.inks p
        some = omega arith

        short : (qs : List Cell) (m : Member p qs) → length qs ≡ b.held → length (without p qs m) ≡ b.held - 1
        short qs m e = omega (arith, length_without p qs m)

        forth : (q : Cell) (qs : List Cell) → (Member q qs → 0 < b.inks q) → Member q qs × (q ≡ p → ⊥) → ((q ≡ p) × (after.inks q ≡ j)) ⊎ ((q ≡ p → ⊥) × (after.inks q ≡ b.inks q)) → Marked after q
        forth q qs f m (inl d) = absurd (m.1 d.0)
        forth q qs f m (inr d) = subst (λ n. 0 < n) (sym d.1) (f m.0)

        back : (q : Cell) (qs : List Cell) (m : Member p qs) → (0 < b.inks q → Member q qs) → Marked after q → ((q ≡ p) × (after.inks q ≡ j)) ⊎ ((q ≡ p → ⊥) × (after.inks q ≡ b.inks q)) → Member q (without p qs m)
        back q qs m f k (inl d) = absurd (let l : 0 < j = subst (λ n. 0 < n) d.1 k in omega arith)
        back q qs m f k (inr d) = stays p qs m q d.0 (f (subst (λ n. 0 < n) d.1 k))
    counted_by (inr a) (inr z) =
        let t = laws.counted in
        let same : held_after (b.inks p) j b.held ≡ b.held = grind (arith, nat_tests) in
        (t.0, lists_like (Marked b) (Marked after) t.0 (unmoved (λ _. some j z, λ _. some (b.inks p) a)) t.1, t.2 ∙ sym same)
      where
        some : (n : ℕ) → (n ≡ 0 → ⊥) → 0 < n
        some n h = omega arith

    pub put_laws : j ≤ 15 → b.frame p ≡ true → (0 < j → b.inks p ≡ 0 → b.held < b.seats) → BoardLaws (with_ink b p j)
    put_laws small framed room = record {
      small = λ q. bounded q (either q);
      framed = λ q k. inside q k (either q);
      counted = counted_by (cases_eq (b.inks p) 0) (cases_eq j 0);
      seated = let k = laws.seated in grind (arith, nat_tests);
    }
      where
        bounded : (q : Cell) → ((q ≡ p) × (after.inks q ≡ j)) ⊎ ((q ≡ p → ⊥) × (after.inks q ≡ b.inks q)) → after.inks q ≤ 15
        bounded q (inl d) = subst (λ n. n ≤ 15) (sym d.1) small
        bounded q (inr d) = subst (λ n. n ≤ 15) (sym d.1) (laws.small q)

        inside : (q : Cell) → 0 < after.inks q → ((q ≡ p) × (after.inks q ≡ j)) ⊎ ((q ≡ p → ⊥) × (after.inks q ≡ b.inks q)) → b.frame q ≡ true
        inside q k (inl d) = subst (λ r. b.frame r ≡ true) (sym d.0) framed
        inside q k (inr d) = laws.framed q (subst (λ n. 0 < n) d.1 k)

pub cleared_laws : (b : Board) → BoardLaws (cleared b)
cleared_laws b = record {
  small = λ q. omega arith;
  framed = λ q k. absurd (omega arith);
  counted = ([], record { distinct = tt; exact = λ q. (λ m. absurd m, λ k. omega arith) }, refl);
  seated = omega arith;
}
