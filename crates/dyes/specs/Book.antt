-- What a dye book means, and what its calls answer and leave.
--     book     the ink of each name that is there, how many names there are, and how many there may be
use Rattle.std.specs.Prelude.{◌≡◌, ℕ, ◌+◌, ◌<◌, ◌≤◌, Bool, true, false, cond, not, ◌&&◌, List, is_some, Some, None, Ok, Err, Option, Result, ◌≢◌, nat_lt}
use Rattle.dyes.specs.declared.name.DyeName.{DyeName}
use Rattle.dyes.specs.declared.refusal.DyeRefused.{DyeRefused}
use Rattle.dyes.specs.declared.refusal.DyeRefused.TheVariants.{Full}
use Rattle.dyes.specs.Names.{spelled}

pub record Book : Type 0 where
  pub ink : DyeName → Option ℕ
  pub count : ℕ
  pub room : ℕ

-- inks are 1 up to the number of names, each of one name, and there are no more names than there may be
pub record BookLaws (b : Book) : Type 0 where
  pub among : (n : DyeName) (k : ℕ) → b.ink n ≡ Some k → (0 < k) × (k ≤ b.count)
  pub alone : (m n : DyeName) (k : ℕ) → b.ink m ≡ Some k → b.ink n ≡ Some k → m ≡ n
  pub each : (k : ℕ) → 0 < k → k ≤ b.count → (n : DyeName) × (b.ink n ≡ Some k)
  pub few : b.count ≤ b.room

abbrev pub empty_book : ℕ → Book
empty_book n = record { ink = λ m. None; count = 0; room = n }

-- the ink of a name that is there, or else the next, unless the book is full
abbrev pub given : Option ℕ → ℕ → ℕ → Result ℕ DyeRefused
given (Some k) n room = Ok k
given None n room = cond (nat_lt n room) (Ok (n + 1)) (Err Full)

abbrev pub name_answer : Book → DyeName → Result ℕ DyeRefused
name_answer b n = given (b.ink n) b.count b.room

-- a name goes in if it is new and there is room
abbrev pub goes_in : Book → DyeName → Bool
goes_in b n = not (is_some (b.ink n)) && nat_lt b.count b.room

-- the book c is b with a new name, which has the next ink
pub record Gains (b : Book) (n : DyeName) (c : Book) : Type 0 where
  pub ink : c.ink n ≡ Some (b.count + 1)
  pub others : (m : DyeName) → (m ≢ n) → c.ink m ≡ b.ink m
  pub count : c.count ≡ b.count + 1
  pub room : c.room ≡ b.room

abbrev pub gains_if : Bool → Book → DyeName → Book → Type 0
gains_if true b n c = Gains b n c
gains_if false b n c = c ≡ b

-- the book after a name is added
abbrev pub After : Book → DyeName → Book → Type 0
After b n c = gains_if (goes_in b n) b n c

-- the same for a text, which spells a name or is refused
abbrev pub answer_of : Result DyeName DyeRefused → Book → Result ℕ DyeRefused
answer_of (Ok n) b = name_answer b n
answer_of (Err why) b = Err why

abbrev pub add_answer : Book → List ℕ → Result ℕ DyeRefused
add_answer b text = answer_of (spelled text) b

abbrev pub after_of : Result DyeName DyeRefused → Book → Book → Type 0
after_of (Ok n) b c = After b n c
after_of (Err why) b c = c ≡ b

abbrev pub AfterText : Book → List ℕ → Book → Type 0
AfterText b text c = after_of (spelled text) b c

abbrev pub ink_of : Result DyeName DyeRefused → Book → Option ℕ
ink_of (Ok n) b = b.ink n
ink_of (Err why) b = None

abbrev pub lookup_answer : Book → List ℕ → Option ℕ
lookup_answer b text = ink_of (spelled text) b
