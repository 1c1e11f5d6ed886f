-- The history of a book: its journal, each number read as the key that it stands for.
--
--   the journal claim 0 by seat 2 of a book with the key k is the history claim k by seat 2
use Rattle.std.specs.Prelude.{ℕ, ◌==◌, if◌then◌else◌, List, [], map, slice_get, unwrap_or}
use Rattle.fp_field.specs.declared.prime.Prime.TheVariants.{Two}
use Rattle.term_lang.specs.declared.terms.Term.TheVariants.{KZ1}
use Rattle.oracle_iface.specs.declared.entries.Act.TheVariants.{Claims, Publishes, Releases}
use Rattle.oracle_iface.specs.declared.entries.Entry.{Entry}
use Rattle.oracle_iface.specs.declared.keys.Key.{Key}
use Rattle.oracle_iface.specs.declared.keys.Op.TheVariants.{Basis}
use Rattle.oracle_iface.specs.declared.keys.Place.TheVariants.{Degree}
use Rattle.core_board.specs.declared.events.Event.{Event}
use Rattle.core_board.specs.declared.events.Event.TheVariants.{Claim, Publish, Release}
use Rattle.memo_book.specs.Books.{BookView}

-- a number that no key of the book has, and so no event of its journal, is read as this key
abbrev pub any_key : Key
any_key = record { op = Basis; prime = Two; place = Degree 0; term = KZ1 }

abbrev pub key_at : List Key → ℕ → Key
key_at keys n = unwrap_or (slice_get keys n) any_key

abbrev pub entry_of : List Key → Event → Entry
entry_of keys (Claim seat n) = record { act = Claims; seat = seat; key = key_at keys n }
entry_of keys (Publish seat n) = record { act = Publishes; seat = seat; key = key_at keys n }
entry_of keys (Release seat n) = record { act = Releases; seat = seat; key = key_at keys n }

abbrev pub history : BookView → List Entry
history b = map (entry_of b.keys) b.journal

-- a book is one shard, of number 0
abbrev pub front : BookView → ℕ → List Entry
front b shard = if shard == 0 then history b else []
