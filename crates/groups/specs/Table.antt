-- The positions of the seventeen plane groups, as one table, and what it means that a group's rows are closed.
use Rattle.std.specs.Prelude.{◌≡◌, ℕ, zero, suc, ◌+◌, ◌-◌, ◌*◌, ◌≤◌, ◌⊎◌, List, [], ◌∷◌, ℤ, pos, negsuc, ◌+ℤ◌, ◌-ℤ◌, ◌*ℤ◌, slice_index, slice_index_or}
use Rattle.groups.specs.declared.position.Position.{Position}
use Rattle.groups.specs.Lists.{In}

-- how the table is written: 1, 0 and -1
abbrev i : ℤ
i = pos 1

abbrev o : ℤ
o = pos 0

abbrev n : ℤ
n = negsuc 0

-- Each line is a position: it carries (x, y) to (a x + b y, c x + d y), moved by s half periods in x and t half periods in y. The columns are a b c d s t.
unfoldable pub numbers : List ℤ
numbers =
    -- 1 p1
    i ∷ o ∷ o ∷ i ∷ o ∷ o ∷  -- x,y
    -- 2 p2
    i ∷ o ∷ o ∷ i ∷ o ∷ o ∷  -- x,y
    n ∷ o ∷ o ∷ n ∷ o ∷ o ∷  -- -x,-y
    -- 3 pm
    i ∷ o ∷ o ∷ i ∷ o ∷ o ∷  -- x,y
    n ∷ o ∷ o ∷ i ∷ o ∷ o ∷  -- -x,y
    -- 4 pg
    i ∷ o ∷ o ∷ i ∷ o ∷ o ∷  -- x,y
    n ∷ o ∷ o ∷ i ∷ o ∷ i ∷  -- -x,y+1/2
    -- 5 cm
    i ∷ o ∷ o ∷ i ∷ o ∷ o ∷  -- x,y
    n ∷ o ∷ o ∷ i ∷ o ∷ o ∷  -- -x,y
    i ∷ o ∷ o ∷ i ∷ i ∷ i ∷  -- x+1/2,y+1/2
    n ∷ o ∷ o ∷ i ∷ i ∷ i ∷  -- -x+1/2,y+1/2
    -- 6 p2mm
    i ∷ o ∷ o ∷ i ∷ o ∷ o ∷  -- x,y
    n ∷ o ∷ o ∷ n ∷ o ∷ o ∷  -- -x,-y
    n ∷ o ∷ o ∷ i ∷ o ∷ o ∷  -- -x,y
    i ∷ o ∷ o ∷ n ∷ o ∷ o ∷  -- x,-y
    -- 7 p2mg
    i ∷ o ∷ o ∷ i ∷ o ∷ o ∷  -- x,y
    n ∷ o ∷ o ∷ n ∷ o ∷ o ∷  -- -x,-y
    n ∷ o ∷ o ∷ i ∷ i ∷ o ∷  -- -x+1/2,y
    i ∷ o ∷ o ∷ n ∷ i ∷ o ∷  -- x+1/2,-y
    -- 8 p2gg
    i ∷ o ∷ o ∷ i ∷ o ∷ o ∷  -- x,y
    n ∷ o ∷ o ∷ n ∷ o ∷ o ∷  -- -x,-y
    n ∷ o ∷ o ∷ i ∷ i ∷ i ∷  -- -x+1/2,y+1/2
    i ∷ o ∷ o ∷ n ∷ i ∷ i ∷  -- x+1/2,-y+1/2
    -- 9 c2mm
    i ∷ o ∷ o ∷ i ∷ o ∷ o ∷  -- x,y
    n ∷ o ∷ o ∷ n ∷ o ∷ o ∷  -- -x,-y
    n ∷ o ∷ o ∷ i ∷ o ∷ o ∷  -- -x,y
    i ∷ o ∷ o ∷ n ∷ o ∷ o ∷  -- x,-y
    i ∷ o ∷ o ∷ i ∷ i ∷ i ∷  -- x+1/2,y+1/2
    n ∷ o ∷ o ∷ n ∷ i ∷ i ∷  -- -x+1/2,-y+1/2
    n ∷ o ∷ o ∷ i ∷ i ∷ i ∷  -- -x+1/2,y+1/2
    i ∷ o ∷ o ∷ n ∷ i ∷ i ∷  -- x+1/2,-y+1/2
    -- 10 p4
    i ∷ o ∷ o ∷ i ∷ o ∷ o ∷  -- x,y
    n ∷ o ∷ o ∷ n ∷ o ∷ o ∷  -- -x,-y
    o ∷ n ∷ i ∷ o ∷ o ∷ o ∷  -- -y,x
    o ∷ i ∷ n ∷ o ∷ o ∷ o ∷  -- y,-x
    -- 11 p4mm
    i ∷ o ∷ o ∷ i ∷ o ∷ o ∷  -- x,y
    n ∷ o ∷ o ∷ n ∷ o ∷ o ∷  -- -x,-y
    o ∷ n ∷ i ∷ o ∷ o ∷ o ∷  -- -y,x
    o ∷ i ∷ n ∷ o ∷ o ∷ o ∷  -- y,-x
    n ∷ o ∷ o ∷ i ∷ o ∷ o ∷  -- -x,y
    i ∷ o ∷ o ∷ n ∷ o ∷ o ∷  -- x,-y
    o ∷ i ∷ i ∷ o ∷ o ∷ o ∷  -- y,x
    o ∷ n ∷ n ∷ o ∷ o ∷ o ∷  -- -y,-x
    -- 12 p4gm
    i ∷ o ∷ o ∷ i ∷ o ∷ o ∷  -- x,y
    n ∷ o ∷ o ∷ n ∷ o ∷ o ∷  -- -x,-y
    o ∷ n ∷ i ∷ o ∷ o ∷ o ∷  -- -y,x
    o ∷ i ∷ n ∷ o ∷ o ∷ o ∷  -- y,-x
    n ∷ o ∷ o ∷ i ∷ i ∷ i ∷  -- -x+1/2,y+1/2
    i ∷ o ∷ o ∷ n ∷ i ∷ i ∷  -- x+1/2,-y+1/2
    o ∷ i ∷ i ∷ o ∷ i ∷ i ∷  -- y+1/2,x+1/2
    o ∷ n ∷ n ∷ o ∷ i ∷ i ∷  -- -y+1/2,-x+1/2
    -- 13 p3
    i ∷ o ∷ o ∷ i ∷ o ∷ o ∷  -- x,y
    o ∷ n ∷ i ∷ n ∷ o ∷ o ∷  -- -y,x-y
    n ∷ i ∷ n ∷ o ∷ o ∷ o ∷  -- -x+y,-x
    -- 14 p3m1
    i ∷ o ∷ o ∷ i ∷ o ∷ o ∷  -- x,y
    o ∷ n ∷ i ∷ n ∷ o ∷ o ∷  -- -y,x-y
    n ∷ i ∷ n ∷ o ∷ o ∷ o ∷  -- -x+y,-x
    o ∷ n ∷ n ∷ o ∷ o ∷ o ∷  -- -y,-x
    n ∷ i ∷ o ∷ i ∷ o ∷ o ∷  -- -x+y,y
    i ∷ o ∷ i ∷ n ∷ o ∷ o ∷  -- x,x-y
    -- 15 p31m
    i ∷ o ∷ o ∷ i ∷ o ∷ o ∷  -- x,y
    o ∷ n ∷ i ∷ n ∷ o ∷ o ∷  -- -y,x-y
    n ∷ i ∷ n ∷ o ∷ o ∷ o ∷  -- -x+y,-x
    o ∷ i ∷ i ∷ o ∷ o ∷ o ∷  -- y,x
    i ∷ n ∷ o ∷ n ∷ o ∷ o ∷  -- x-y,-y
    n ∷ o ∷ n ∷ i ∷ o ∷ o ∷  -- -x,-x+y
    -- 16 p6
    i ∷ o ∷ o ∷ i ∷ o ∷ o ∷  -- x,y
    o ∷ n ∷ i ∷ n ∷ o ∷ o ∷  -- -y,x-y
    n ∷ i ∷ n ∷ o ∷ o ∷ o ∷  -- -x+y,-x
    n ∷ o ∷ o ∷ n ∷ o ∷ o ∷  -- -x,-y
    o ∷ i ∷ n ∷ i ∷ o ∷ o ∷  -- y,-x+y
    i ∷ n ∷ i ∷ o ∷ o ∷ o ∷  -- x-y,x
    -- 17 p6mm
    i ∷ o ∷ o ∷ i ∷ o ∷ o ∷  -- x,y
    o ∷ n ∷ i ∷ n ∷ o ∷ o ∷  -- -y,x-y
    n ∷ i ∷ n ∷ o ∷ o ∷ o ∷  -- -x+y,-x
    n ∷ o ∷ o ∷ n ∷ o ∷ o ∷  -- -x,-y
    o ∷ i ∷ n ∷ i ∷ o ∷ o ∷  -- y,-x+y
    i ∷ n ∷ i ∷ o ∷ o ∷ o ∷  -- x-y,x
    o ∷ n ∷ n ∷ o ∷ o ∷ o ∷  -- -y,-x
    n ∷ i ∷ o ∷ i ∷ o ∷ o ∷  -- -x+y,y
    i ∷ o ∷ i ∷ n ∷ o ∷ o ∷  -- x,x-y
    o ∷ i ∷ i ∷ o ∷ o ∷ o ∷  -- y,x
    i ∷ n ∷ o ∷ n ∷ o ∷ o ∷  -- x-y,-y
    n ∷ o ∷ n ∷ i ∷ o ∷ o ∷  -- -x,-x+y
    []

-- the row where each group begins; the last is the number of rows
unfoldable pub starts : List ℕ
starts = 0 ∷ 1 ∷ 3 ∷ 5 ∷ 7 ∷ 11 ∷ 15 ∷ 19 ∷ 23 ∷ 31 ∷ 35 ∷ 43 ∷ 51 ∷ 54 ∷ 60 ∷ 66 ∷ 72 ∷ 84 ∷ []

unfoldable pub row : ℕ → Position
row k = record {
  a = slice_index_or numbers (6 * k) (pos 0);
  b = slice_index_or numbers (6 * k + 1) (pos 0);
  c = slice_index_or numbers (6 * k + 2) (pos 0);
  d = slice_index_or numbers (6 * k + 3) (pos 0);
  s = slice_index_or numbers (6 * k + 4) (pos 0);
  t = slice_index_or numbers (6 * k + 5) (pos 0);
}

-- m rows from the row k on
abbrev pub rows_from : ℕ → ℕ → List Position
rows_from zero k = []
rows_from (suc m) k = row k ∷ rows_from m (suc k)

unfoldable pub first_row : ℕ → ℕ
first_row number = slice_index starts (number - 1)

unfoldable pub end_row : ℕ → ℕ
end_row number = slice_index starts number

-- the positions of the group with that number
unfoldable pub rows : ℕ → List Position
rows number = rows_from (end_row number - first_row number) (first_row number)

-- the position x,y
abbrev pub unit : Position
unit = record { a = pos 1; b = pos 0; c = pos 0; d = pos 1; s = pos 0; t = pos 0 }

-- first h, then g, is k, up to whole periods: shifts are counted in halves, so they agree up to a double
pub record Product (g h k : Position) : Type 0 where
  pub a : g.a *ℤ h.a +ℤ g.b *ℤ h.c ≡ k.a
  pub b : g.a *ℤ h.b +ℤ g.b *ℤ h.d ≡ k.b
  pub c : g.c *ℤ h.a +ℤ g.d *ℤ h.c ≡ k.c
  pub d : g.c *ℤ h.b +ℤ g.d *ℤ h.d ≡ k.d
  pub across : ℤ
  pub s : g.a *ℤ h.s +ℤ g.b *ℤ h.t +ℤ g.s ≡ k.s +ℤ (across +ℤ across)
  pub down : ℤ
  pub t : g.c *ℤ h.s +ℤ g.d *ℤ h.t +ℤ g.t ≡ k.t +ℤ (down +ℤ down)

-- what the rows of one group satisfy
pub record Closed (number : ℕ) (rs : List Position) : Type 0 where
  pub neutral : In unit rs
  pub closed : (g h : Position) → In g rs → In h rs → (k : Position) × In k rs × Product g h k
  pub inverse : (g : Position) → In g rs → (h : Position) × In h rs × Product h g unit
  pub unimodular : (g : Position) → In g rs → (g.a *ℤ g.d -ℤ g.b *ℤ g.c ≡ pos 1) ⊎ (g.a *ℤ g.d -ℤ g.b *ℤ g.c ≡ negsuc 0)
  -- the groups below 10 exchange no coordinates
  pub upright : (g : Position) → In g rs → number ≤ 9 → (g.b ≡ pos 0) × (g.c ≡ pos 0)

-- every group of the table is closed under composition and inverse, up to translations by periods
abbrev pub TableClosed : Type 0
TableClosed = (number : ℕ) → 1 ≤ number → number ≤ 17 → Closed number (rows number)
