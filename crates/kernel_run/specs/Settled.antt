-- Which keys the lines of a script ask for, and that a session settles them.
--
-- A line that is answered asks for the keys of its question, up to and with the first that is past a limit; a line that is no question about
-- values asks for none. A script asks for the keys of its lines, each in the state that the lines before it left. A session settles them
-- where each is published in the last front, or some front on the way from the first to the last shows it held by another seat, or shows a
-- full shard without it (the lazy evaluation of Kenzo's objects: Kenzo documentation, 1999).
--
-- Main definitions: `script_keys`, `SettlesScript`.
-- Worked value: the script "(homology (sphere 2) 2)\n(names)" asks for one key, that of the cycles of degree 2 of the sphere of dimension 2
-- over F_2.
use Rattle.std.specs.Prelude.{ℕ, List, [], ◌∷◌, ◌++◌, All}
use Rattle.homology_rules.specs.Asking.{up_to_refusal}
use Rattle.oracle_iface.specs.Histories.{IsHeld}
use Rattle.oracle_iface.specs.Memos.{Fronts}
use Rattle.oracle_iface.specs.declared.keys.Key.{Key}
use Rattle.force_engine.specs.Fronts.{Told, Between}
use Rattle.force_engine.specs.Ways.{IsSettledAt}
use Rattle.session_core.specs.Answer.{State}
use Rattle.session_core.specs.Lines.{first_state, line_keys}
use Rattle.kernel_run.specs.Fresh.{state_after, answered_lines}

-- the keys that a line asks for where it is answered
abbrev pub keys_at : State → List ℕ → List Key
keys_at s line = up_to_refusal (line_keys s line)

-- the keys that lines ask for, the first of which finds this state
abbrev pub keys_from : State → List (List ℕ) → List Key
keys_from s [] = []
keys_from s (line ∷ lines) = keys_at s line ++ keys_from (state_after s line) lines

-- the keys that the lines of a script ask for
abbrev pub script_keys : List ℕ → List Key
script_keys script = keys_from first_state (answered_lines script)

module _ (seat : ℕ) (shard : Key → ℕ) where
  -- the seat holds no key
  abbrev pub HoldsNone : Told → Type 0
  HoldsNone h = (k : Key) → IsHeld (h (shard k)) k seat → ⊥

  -- each of the keys is settled
  abbrev pub AreSettled : List Key → Told → Told → Type 0
  AreSettled keys h n = All (λ k. IsSettledAt seat shard k h n) keys

  -- each key that the lines of the script ask for is settled between the fronts, if they are told
  abbrev pub SettlesScript : Fronts → Fronts → List ℕ → Type 0
  SettlesScript old new script = Between (AreSettled (script_keys script)) old new
