use Rattle.std.specs.Prelude.{ℕ, ◌<◌, List, length, Result, Ok, Err}
use Rattle.chains.specs.declared.limits.TheConstants.{SHORT_CHAIN_MAX}
use Rattle.chains.specs.declared.chain.Chain.{Chain}
use Rattle.chains.specs.declared.no_chain.NoChain.{NoChain}
use Rattle.chains.specs.declared.no_chain.NoChain.TheVariants.{Malformed, NoMemory}
use Rattle.chains.specs.PackedChain.{entries_from}
use Rattle.chains.specs.Held.{AreSound, AreHeld}

-- What it gives to gather the first `count` entries of a table, by the chain that they are added to: their segments; or they
-- break a rule; or memory was refused, and they are more than are handled without it.
abbrev pub EntriesGives : ℕ → List ℕ → ℕ → ℕ → Chain → Result (Unit {0}) NoChain → Type 0
EntriesGives base ram table count c (Ok done) = AreHeld base (length ram) (entries_from ram table 0 count) c
EntriesGives base ram table count c (Err Malformed) = AreSound base (length ram) (entries_from ram table 0 count) → ⊥
EntriesGives base ram table count c (Err NoMemory) = SHORT_CHAIN_MAX < count
