-- The cells that a board holds make the inked cells of the plane, and no fewer cells do, if the board follows the ledger.
use Rattle.std.proofs.Common.{◌≡◌, ℕ, ◌<◌, ◌≤◌, ◌↔◌, List, length, sym, ◌∙◌, subst}
use Rattle.plane.specs.declared.cell.Cell.{Cell}
use Rattle.plane.specs.Cells.{Within}
use Rattle.plane.specs.Meaning.{Meaning}
use Rattle.plane.specs.Laws.{Carried}
use Rattle.canvas.specs.Distinct.{Member, Lists}
use Rattle.ledger.specs.Ledgers.{Entry, Ledger, Latest}
use Rattle.ledger.specs.Planes.{Inked, Fewest}
use Rattle.ledger.specs.Feeding.{Taken}
use Rattle.ledger.proofs.Counting.{at_least}
use Rattle.ledger.proofs.Classes.{Classes}
use Rattle.ledger.proofs.Onto.{carried_of, carried_next, carried_back, to_home, one_class}
use Rattle.ledger.proofs.Entries.{Fair, Sound, latest_has, latest_fair, latest_like}
use Rattle.ledger.proofs.Homes.{Follows, held_taken}

module _ (m : Meaning) (cl : Classes m) (L : Ledger) (sound : Sound m L) where
  -- a laid cell that reaches q: the laid cells of its home are those that reach q
  reach_like : (l : Entry) (q : Cell) → Within m.span l.cell → Carried m.operations l.cell q → (e : Entry) → Fair m e → (m.home e.cell ≡ m.home l.cell) ↔ Carried m.operations e.cell q
  reach_like l q w c e f =
      let class = one_class m cl e.cell l.cell f.0 w in
      (λ h. carried_next m cl e.cell l.cell q (class.0 h) c, λ d. class.1 (carried_next m cl e.cell q l.cell d (carried_back m cl l.cell q c)))

  -- a taken home is the home of a laid cell
  taken_from : (h : Cell) (t : Taken m.home L h) → Fair m t.0 × Carried m.operations t.0.cell h × (m.home t.0.cell ≡ h)
  taken_from h t =
      let fair : Fair m t.0 = latest_fair m _ L t.0 sound t.1 in
      let is : m.home t.0.cell ≡ h = latest_has (λ p. m.home p ≡ h) L t.0 t.1 in
      (fair, subst (λ k. Carried m.operations t.0.cell k) is (to_home m cl t.0.cell fair.0), is)

  -- its images are inked
  pub taken_inked : (h q : Cell) → Taken m.home L h → Carried m.operations h q → Inked m.operations L q
  taken_inked h q t c =
      let l : Entry = t.0 in
      let from = taken_from h t in
      let onto : Carried m.operations l.cell q = carried_next m cl l.cell h q from.1 c in
      let at : Latest (λ p. m.home p ≡ m.home l.cell) L l = subst (λ k. Latest (λ p. m.home p ≡ k) L l) (sym from.2) t.1 in
      (l, latest_like m (λ p. m.home p ≡ m.home l.cell) (λ p. Carried m.operations p q) (reach_like l q from.0.0 onto) L l sound at, t.2)

  -- and every inked cell is an image of one
  pub inked_taken : (q : Cell) → Inked m.operations L q → (h : Cell) × Taken m.home L h × Carried m.operations h q
  inked_taken q t =
      let l : Entry = t.0 in
      let fair : Fair m l = latest_fair m _ L l sound t.1 in
      let onto : Carried m.operations l.cell q = latest_has (λ p. Carried m.operations p q) L l t.1 in
      let turn : (e : Entry) → Fair m e → Carried m.operations e.cell q ↔ (m.home e.cell ≡ m.home l.cell) = λ e f. let r = reach_like l q fair.0 onto e f in (r.1, r.0) in
      (m.home l.cell, (l, latest_like m (λ p. Carried m.operations p q) (λ p. m.home p ≡ m.home l.cell) turn L l sound t.1, t.2), carried_next m cl (m.home l.cell) l.cell q (carried_back m cl l.cell (m.home l.cell) (to_home m cl l.cell fair.0)) onto)

  -- taken homes that operations carry one cell onto are one
  pub taken_alone : (h k t : Cell) → Taken m.home L h → Taken m.home L k → Carried m.operations t h → Carried m.operations t k → h ≡ k
  taken_alone h k t a b c d =
      let l : Cell = a.0.cell in
      let n : Cell = b.0.cell in
      let fl = taken_from h a in
      let fn = taken_from k b in
      let lt : Carried m.operations l t = carried_next m cl l h t fl.1 (carried_back m cl t h c) in
      let tn : Carried m.operations t n = carried_next m cl t k n d (carried_back m cl n k fn.1) in
      sym fl.2 ∙ cl.one_home l n fl.0.0 fn.0.0 (carried_next m cl l t n lt tn) ∙ fn.2

-- as many cells as are held make the inked cells, and no fewer do
pub fewest : (m : Meaning) (cl : Classes m) (L : Ledger) (inks : Cell → ℕ) → Follows m L inks → (hs : List Cell) (n : ℕ) → Lists (λ p. 0 < inks p) hs → length hs ≡ n → Fewest m.operations L n
fewest m cl L inks follows hs n ls e = record {
  some = (hs, ls.distinct, λ q. (λ t. taken_inked m cl L follows.sound t.0 q (taken t.0 t.1) t.2, λ i. let u = inked_taken m cl L follows.sound q i in (u.0, listed u.0 u.1, u.2)), e);
  least = λ ts makes. subst (λ k. k ≤ length ts) e (at_least (λ h t. Carried m.operations t h) hs ts ls.distinct (λ h k. (makes h).1 (taken_inked m cl L follows.sound h h (taken h k) (carried_of (cl.stay h)))) (λ h k t mh mk c d. taken_alone m cl L follows.sound h k t (taken h mh) (taken k mk) c d));
}
  where
    taken : (h : Cell) → Member h hs → Taken m.home L h
    taken h k = (held_taken m L inks follows h).0 ((ls.exact h).0 k)

    listed : (h : Cell) → Taken m.home L h → Member h hs
    listed h t = (ls.exact h).1 ((held_taken m L inks follows h).1 t)
