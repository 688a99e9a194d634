use Rattle.std.proofs.Common.{refl, List, ℕ}
use denote.Bor.{Bor}
use lib.ListN.{get_or-map}
use Rattle.groups.specs.Symbols.{symbols, symbol_of}
use Rattle.groups.proofs.plane_group.PlaneGroup.symbol.Goals as goal

pub returns : goal.returns
unfolding symbols symbol_of
returns c = rw (← get_or-map {A = Bor (List ℕ)} (λ x. x.now)) refl
