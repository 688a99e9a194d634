-- The laws of the book of a list of dye records.
use Rattle.std.proofs.Common.{◌≡◌, ℕ, ◌<◌, ◌≤◌, true, List, length, is_some, Some, None, Option, sym, refl, ap, ◌∙◌, subst, arith, length-take}
use Rattle.std.specs.List.{list_all}
use Rattle.std.proofs.lemmas.Bool.{and_parts}
use Rattle.shelf.specs.Held.{table, held, size}
use Rattle.shelf.specs.Keys.{Sorted, found}
use Rattle.shelf.proofs.Lookups.{found_is, all_found}
use Rattle.dyes.specs.declared.name.DyeName.{DyeName}
use Rattle.dyes.specs.declared.record.DyeRecord.{DyeRecord}
use Rattle.dyes.specs.declared.book.DyeBook.{DyeBook}
use Rattle.dyes.specs.Book.{BookLaws}
use Rattle.dyes.specs.Dyes.{dye_book}
use Rattle.dyes.specs.Inks.{by_ink, among as among-test, apart as apart-test, Numbered, Each}
use Rattle.dyes.specs.Records.{dye_keys}
use Rattle.dyes.specs.Shelves.{ink_in, records_book}
use Rattle.dyes.proofs.Numbers.{Among, all_among, all_by_ink, by_ink_is}
use Rattle.dyes.specs.Ordering.{names_ordered}

-- the record behind an ink
behind : (o : Option DyeRecord) (k : ℕ) → ink_in o ≡ Some k → (r : DyeRecord) × (o ≡ Some r) × (r.ink ≡ k)
behind (Some r) k h = (r, refl, cc)
behind None k h = cc

some_is : (o : Option DyeRecord) → is_some o ≡ true → (r : DyeRecord) × (o ≡ Some r)
some_is (Some r) h = (r, refl)
some_is None h = cc

same_record : (o : Option DyeRecord) (r s : DyeRecord) → o ≡ Some r → o ≡ Some s → r ≡ s
same_record o r s e f = cc

pub book_laws : (rs : List DyeRecord) (n : ℕ) → Sorted dye_keys rs → Numbered rs → Each rs → length rs ≤ 15 → length rs ≤ n → BookLaws (records_book rs n)
book_laws rs n s h each few room = record {
  among = among;
  alone = alone;
  each = λ k a b. there k (some_is (by_ink k rs) (each k (a, b)));
  few = omega arith;
}
  where
    among : (m : DyeName) (k : ℕ) → ink_in (found dye_keys m rs) ≡ Some k → (0 < k) × (k ≤ length rs)
    among m k e =
        let b = behind (found dye_keys m rs) k e in
        let i = found_is dye_keys names_ordered (Among (length rs)) m rs b.0 (all_among rs h) b.1 in
        subst (λ j. (0 < j) × (j ≤ length rs)) b.2 i.1

    alone : (m l : DyeName) (k : ℕ) → ink_in (found dye_keys m rs) ≡ Some k → ink_in (found dye_keys l rs) ≡ Some k → m ≡ l
    alone m l k e f =
        let b = behind (found dye_keys m rs) k e in
        let c = behind (found dye_keys l rs) k f in
        let apart = (and_parts (list_all (among-test (length rs)) rs) (apart-test rs) h).1 in
        let p = found_is dye_keys names_ordered (λ r. by_ink r.ink rs ≡ Some r) m rs b.0 (all_by_ink rs apart) b.1 in
        let q = found_is dye_keys names_ordered (λ r. by_ink r.ink rs ≡ Some r) l rs c.0 (all_by_ink rs apart) c.1 in
        let same : b.0 ≡ c.0 = same_record (by_ink k rs) b.0 c.0 (ap (λ i. by_ink i rs) (sym b.2) ∙ p.1) (ap (λ i. by_ink i rs) (sym c.2) ∙ q.1) in
        sym p.0 ∙ ap (λ (r : DyeRecord). r.name) same ∙ q.0

    there : (k : ℕ) → (r : DyeRecord) × (by_ink k rs ≡ Some r) → (m : DyeName) × (ink_in (found dye_keys m rs) ≡ Some k)
    there k b =
        let i = by_ink_is (λ r. found dye_keys r.name rs ≡ Some r) k rs b.0 (all_found dye_keys names_ordered rs s) b.1 in
        (b.0.name, ap ink_in i.1 ∙ ap (λ j. Some j) i.0)

-- the laws of the book that a dye book holds
pub dye_laws : (d : DyeBook) → BookLaws (dye_book d)
dye_laws d = book_laws (held d.shelf) (size d.shelf) d.shelf.sorted d.numbered d.each d.few (omega (arith, d.shelf.fits, length-take d.shelf.count (table d.shelf)))
