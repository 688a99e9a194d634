-- The cells of a repeat that are their own homes: one for each class.
use Rattle.std.proofs.Common.{◌≡◌, ℕ, ◌+◌, ◌≤◌, Bool, true, false, cond, List, [], ◌∷◌, length, pos, ◌+ℤ◌, nat_abs, sym, refl, ap, ◌∙◌, subst, inl, inr, mul-le-mul, zero-add, arith}
use borrow.Author.Differences.{ints}
use Rattle.plane.specs.declared.cell.Cell.{Cell}
use Rattle.plane.specs.Cells.{AllWithin, Within, same}
use Rattle.plane.specs.Rectangles.{cell_from, window_cells}
use Rattle.plane.specs.Laws.{Lawful}
use Rattle.plane.specs.Kinds.{on_mirror}
use Rattle.plane.proofs.Algebra.{same-cell}
use Rattle.plane.proofs.Order.{same_is, same_of, same_not}
use Rattle.plane.proofs.Rectangles.{window_length, window_within}
use Rattle.groups.specs.Lists.{In}
use Rattle.groups.specs.Rules.{known, allowed}
use Rattle.groups.specs.Tabled.{InRepeat, home_in, kinds_in, tabled}
use Rattle.groups.specs.Homing.{tabled_laws, homes_least}
use Rattle.groups.specs.Grouping.{rules}
use Rattle.census.specs.Homes.{Distinct, Homes}
use Rattle.census.specs.Census.{Counted, mirrored_in, origin}
use Rattle.census.proofs.Places.{cell_in, cell_place, distinct_cells}

-- ---- those of some cells that are their own homes
module _ (home : Cell → Cell) where
  abbrev pub own : List Cell → List Cell
  own [] = []
  own (c ∷ cs) = cond (same (home c) c) (c ∷ own cs) (own cs)

  pub own_more : (c : Cell) (cs : List Cell) → home c ≡ c → own (c ∷ cs) ≡ c ∷ own cs
  own_more c cs e = ap (λ b. cond b (c ∷ own cs) (own cs)) (same_of (home c) c e)

  pub own_same : (c : Cell) (cs : List Cell) → (home c ≡ c → ⊥) → own (c ∷ cs) ≡ own cs
  own_same c cs h = ap (λ b. cond b (c ∷ own cs) (own cs)) (same_not (home c) c h)

  own_of : (cs : List Cell) (g : Cell) → In g (own cs) → In g cs × (home g ≡ g)
  own_of [] g i = absurd i
  own_of (c ∷ cs) g i = go (same (home c) c) refl i (own_of cs g)
    where
      go : (b : Bool) → same (home c) c ≡ b → In g (cond b (c ∷ own cs) (own cs)) → (In g (own cs) → In g cs × (home g ≡ g)) → In g (c ∷ cs) × (home g ≡ g)
      go true e (inl f) rest = (inl f, ap home f ∙ same_is (home c) c e ∙ sym f)
      go true e (inr j) rest = (inr (rest j).0, (rest j).1)
      go false e j rest = (inr (rest j).0, (rest j).1)

  own-has : (cs : List Cell) (g : Cell) → In g cs → home g ≡ g → In g (own cs)
  own-has [] g i e = absurd i
  own-has (c ∷ cs) g (inl f) e = subst (In g) (sym (own_more c cs (subst (λ z. home z ≡ z) f e))) (inl f)
  own-has (c ∷ cs) g (inr i) e = go (same (home c) c) (own-has cs g i e)
    where
      go : (b : Bool) → In g (own cs) → In g (cond b (c ∷ own cs) (own cs))
      go true j = inr j
      go false j = j

  own_distinct : (cs : List Cell) → Distinct cs → Distinct (own cs)
  own_distinct [] d = tt
  own_distinct (c ∷ cs) d = go (same (home c) c) (own_distinct cs d.1)
    where
      go : (b : Bool) → Distinct (own cs) → Distinct (cond b (c ∷ own cs) (own cs))
      go true rest = (λ i. d.0 (own_of cs c i).0, rest)
      go false rest = rest

-- ---- counts that the cells that are left bring to those of all
module _ (number p q : ℕ) (all : List Cell) where
  abbrev own_of_group : List Cell → List Cell
  own_of_group = own (home_in number p q)

  pub record Counting (classes mirrored : ℕ) (left : List Cell) : Type 0 where
    pub many : classes + length (own_of_group left) ≡ length (own_of_group all)
    pub on_mirrors : mirrored + mirrored_in number p q (own_of_group left) ≡ mirrored_in number p q (own_of_group all)
    pub fewer : mirrored ≤ classes
    pub room : classes + length left ≤ length all
    pub near : AllWithin 1_000_000 left

  module _ (classes mirrored : ℕ) (left : List Cell) (c : Cell) (rest : List Cell) (w : Counting classes mirrored left) (e : left ≡ c ∷ rest) where
    pub near_first : Within 1_000_000 c
    near_first = (subst (AllWithin 1_000_000) e w.near).0

    pub room_more : classes + 1 ≤ length all
    room_more = let r = w.room in let l = ap length e in omega (arith, r, l)

    pub counting_more : (b : Bool) → home_in number p q c ≡ c → on_mirror (kinds_in number p q c) ≡ b → Counting (classes + 1) (mirrored + cond b 1 0) rest
    counting_more b is t =
        let o = ap own_of_group e ∙ own_more (home_in number p q) c rest is in
        record {
          many = let s = ap length o in let m = w.many in omega (arith, s, m);
          on_mirrors = let s = ap (mirrored_in number p q) o in let u = ap {B = ℕ} (λ d. cond d 1 0) t in let m = w.on_mirrors in omega (arith, s, u, m);
          fewer = grind (arith, w.fewer);
          room = let r = w.room in let l = ap length e in omega (arith, r, l);
          near = (subst (AllWithin 1_000_000) e w.near).1;
        }

    pub counting_same : (home_in number p q c ≡ c → ⊥) → Counting classes mirrored rest
    counting_same other =
        let o = ap own_of_group e ∙ own_same (home_in number p q) c rest other in
        record {
          many = ap (λ l. classes + length l) (sym o) ∙ w.many;
          on_mirrors = ap (λ l. mirrored + mirrored_in number p q l) (sym o) ∙ w.on_mirrors;
          fewer = w.fewer;
          room = let r = w.room in let l = ap length e in omega (arith, r, l);
          near = (subst (AllWithin 1_000_000) e w.near).1;
        }

-- ---- the repeat of a group
module _ (number p q : ℕ) (k : known number ≡ true) (a : allowed number p q ≡ true) where
  abbrev home : Cell → Cell
  home = home_in number p q

  abbrev cells : List Cell
  cells = window_cells origin p q

  laws : Lawful (tabled number p q)
  laws = tabled_laws number p q k a

  near : (c : Cell) → InRepeat p q c → Within 1_000_000 c
  near c r =
      let ru = rules number p q a in
      (omega (arith, ap nat_abs r.x, r.narrow, ru.p_high), omega (arith, ap nat_abs r.y, r.low, ru.q_high))

  listed : (c : Cell) → InRepeat p q c → In c cells
  listed c r = subst (λ z. In z cells) (same-cell (here r.column ∙ sym r.x) (here r.row ∙ sym r.y)) (cell_in origin p q r.column r.row r.narrow r.low)
    where
      here : (n : ℕ) → pos 0 +ℤ pos n ≡ pos n
      here n = omega (arith, ints)

  found : (c : Cell) → In c cells → InRepeat p q c
  found c i =
      let w = cell_place origin p q c i in
      record { column = w.column; row = w.row; x = ap (λ (z : Cell). z.x) w.is ∙ here w.column; y = ap (λ (z : Cell). z.y) w.is ∙ here w.row; narrow = w.narrow; low = w.low }
    where
      here : (n : ℕ) → pos 0 +ℤ pos n ≡ pos n
      here n = omega (arith, ints)

  pub cells_near : AllWithin 1_000_000 cells
  cells_near = window_within 1_000_000 origin p q (λ i j h l. near (cell_from origin i j) (found (cell_from origin i j) (cell_in origin p q i j h l)))

  -- the home of a cell is its own home
  settled : (c : Cell) → InRepeat p q c → home (home c) ≡ home c
  settled c r =
      let least = homes_least number p q k a c in
      sym ((laws.one_home c (home c) (near c r) (near (home c) least.inside)).1 least.carried)

  pub homes_are : Homes (tabled number p q) (InRepeat p q) (own home cells)
  homes_are = record {
    distinct = own_distinct home cells (distinct_cells origin p q);
    all = λ c r. own-has home cells (home c) (listed (home c) (homes_least number p q k a c).inside) (settled c r);
    only = λ h i. let m = own_of home cells h i in (h, found h m.0, m.1);
    apart = λ g h i j c.
        let m = own_of home cells g i in
        let n = own_of home cells h j in
        sym m.1 ∙ (laws.one_home g h (near g (found g m.0)) (near h (found h n.0))).1 c ∙ n.1;
  }

  pub counting_none : (left : List Cell) → left ≡ cells → Counting number p q cells 0 0 left
  counting_none left e = record {
    many = zero-add (length (own home left)) ∙ ap (λ l. length (own home l)) e;
    on_mirrors = zero-add (mirrored_in number p q (own home left)) ∙ ap (λ l. mirrored_in number p q (own home l)) e;
    fewer = omega arith;
    room = let l = ap length e in omega (arith, l);
    near = subst (AllWithin 1_000_000) (sym e) cells_near;
  }

  pub counted : (classes mirrored : ℕ) (left : List Cell) → Counting number p q cells classes mirrored left → left ≡ [] → Counted number p q classes mirrored
  counted classes mirrored left w e = record {
    homes = own home cells;
    are = homes_are;
    many = let m = w.many in let l = ap (λ l. length (own home l)) e in omega (arith, m, l);
    on_mirrors = let m = w.on_mirrors in let l = ap (λ l. mirrored_in number p q (own home l)) e in omega (arith, m, l);
  }

  pub few_cells : length cells ≤ 16384
  few_cells = let ru = rules number p q a in let l = window_length origin p q in let m = mul-le-mul ru.p_high ru.q_high in omega (arith, l, m)
