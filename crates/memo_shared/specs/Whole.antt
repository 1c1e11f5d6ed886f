-- What closing a table asks of its passes, and what the books say of them.
--
-- The passes are whole where the first one is among them, they are as many as it counts, and there is one of each seat. A table closes as
-- sixteen books, one for each shard. The history of a book begins with the front of each pass. The entries of a seat there are those in the
-- front of its pass, and each entry is of the seat of one of the passes.
--
--   seat 1 of two published k in shard 3, which seat 0 has not seen: book 3 has the history claim k by seat 1, publication of k by seat 1
use Rattle.std.specs.Prelude.{◌≡◌, ℕ, ◌<◌, List, length, slice_get, Some, All, Any}
use Rattle.oracle_iface.specs.declared.entries.Entry.{Entry}
use Rattle.memo_book.specs.Books.{BookView}
use Rattle.memo_book.specs.Histories.{history}
use Rattle.turnstile.specs.Turns.{Fits}
use Rattle.memo_shared.specs.Shared.{IsOf, fronts_of, made_of, seat_of}
use Rattle.memo_shared.specs.declared.memo.SharedMemo.{SharedMemo}
use Rattle.memo_shared.specs.declared.memo.MemoPass.{MemoPass}

-- the list holds the first pass of the table and every pass that it made
pub record IsWhole (m : SharedMemo) (passes : List MemoPass) : Type 0 where
  pub of_this : All (IsOf m) passes
  pub first : Any (λ p. seat_of p ≡ 0) passes
  pub as_many : All (λ p. seat_of p ≡ 0 → made_of p ≡ length passes) passes
  pub every : (seat : ℕ) → seat < length passes → Any (λ p. seat_of p ≡ seat) passes

-- the history begins with what the pass has seen of the shard, and has no other entry of its seat
abbrev pub Continues : ℕ → BookView → MemoPass → Type 0
Continues shard b p = Fits (λ (e : Entry). e.seat) (history b) (seat_of p) (fronts_of p shard)

-- of the book of each shard
abbrev pub AtShards : List BookView → (ℕ → BookView → Type 0) → Type 0
AtShards books P = (shard : ℕ) (b : BookView) → slice_get books shard ≡ Some b → P shard b

-- the history of each book goes on from the fronts of all passes
abbrev pub ContinueAll : List MemoPass → List BookView → Type 0
ContinueAll passes books = AtShards books (λ shard b. All (Continues shard b) passes)

-- each entry is of the seat of one of the passes
abbrev pub AreOfSeats : List MemoPass → List BookView → Type 0
AreOfSeats passes books = AtShards books (λ shard b. All (λ (e : Entry). Any (λ p. seat_of p ≡ e.seat) passes) (history b))
