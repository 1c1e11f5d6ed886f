-- The tree of states, and the finite map that it is seen as.
use Rattle.std.proofs.Common.{◌≡◌, ℕ, cond, refl, ap, sym, ◌∙◌, arith, List, [], ◌∷◌, Option, Some, None}
use Rattle.std.specs.Prelude.{◌==◌, if◌then◌else◌}
use Rattle.std.specs.Ordering.{nat_cmp, is_eq}
use Rattle.std.specs.Cmp.{nat_cmp_total}
use Rattle.std.specs.BTreeMap as tree
use Rattle.std.specs.BTreeMap.{BTreeMap, is_at}
use Rattle.std.specs.Map.{lookup}
use Rattle.std.specs.FinMap.{get, from_entries, get-from_entries, empty, get-empty, same_map, nat_cmp-IsAntisymmetric}
use Rattle.std.specs.FinMap.Entries.{find}
use Rattle.std.proofs.lemmas.Bool.Decides.{nat_tests}
use Rattle.core_board.specs.declared.board.State.{State}
use Rattle.oracle_iface.specs.Board.{Slot, unclaimed, held, published, Board, empty_board}
use Rattle.core_board.specs.declared.board.State.TheVariants.{Held, Published}
use Rattle.core_board.specs.Boards.{States, slot_of, board_of}

found : (key : ℕ) (es : List (ℕ × State)) → find nat_cmp key es ≡ lookup (is_at (nat_cmp key)) es
found key [] = refl
found key (e ∷ es) = ap (cond (is_eq (nat_cmp key e.0)) _) (found key es)

-- the map that a tree is seen as
abbrev pub states_of : BTreeMap ℕ State → States
states_of m = from_entries m.entries

pub get_of : (m : BTreeMap ℕ State) (key : ℕ) → get (states_of m) key ≡ tree.get nat_cmp m key
get_of m key = get-from_entries nat_cmp_total m.entries key ∙ found key m.entries

same_number : (key k : ℕ) → is_eq (nat_cmp key k) ≡ (k == key)
same_number key k = grind (arith, nat_tests)

-- a key that is put into a state, or is taken out
pub get_updated : (m n : BTreeMap ℕ State) (key : ℕ) (state : Option State) → tree.Updates nat_cmp m n key state → (k : ℕ)
    → get (states_of n) k ≡ (if k == key then state else get (states_of m) k)
get_updated m n key state up k =
    get_of n k
    ∙ (up.0 k ∙ (ap (λ b. cond b state (tree.get nat_cmp m k)) (same_number key k) ∙ ap (λ o. if k == key then state else o) (sym (get_of m k))))

-- without states each key is unclaimed
pub empty_states : board_of empty ≡ empty_board
empty_states i key = slot_of (get-empty nat_cmp key i)

-- the state that a slot is
abbrev state_of : Slot → Option State
state_of unclaimed = None
state_of (held seat) = Some (Held seat)
state_of published = Some Published

state_back : (state : Option State) → state_of (slot_of state) ≡ state
state_back None = refl
state_back (Some (Held seat)) = refl
state_back (Some Published) = refl

pub same_states : (a b : States) → board_of a ≡ board_of b → a ≡ b
same_states a b e =
    same_map nat_cmp_total nat_cmp-IsAntisymmetric a b
    (λ key. sym (state_back (get a key)) ∙ (ap (λ (board : Board). state_of (board key)) e ∙ state_back (get b key)))
