-- A name, kept in sixteen bytes: its bytes first, then zeros (the identifiers of Kenzo's spaces are texts too: Kenzo documentation, 1999).
--
--   the bytes 83 and 50, which are the text S2, are kept as 83, 50 and fourteen zeros, with the length 2
use Rattle.std.specs.Prelude.{◌≡◌, ◌≤◌, ◌-◌, ◌++◌, ℕ, List, length, take, replicate}
use Rattle.std.proofs.Common.{sym, ap, ◌∙◌}
use Rattle.std.proofs.lemmas.List.{length-take-le}
use Rattle.term_lang.specs.declared.names.Name.TheInside.{Inside}

abbrev pub name_bytes : Inside → List ℕ
name_bytes n = take n.len n.bytes

abbrev pub inside_of : List ℕ → Inside
inside_of l = record { bytes = l ++ replicate (16 - length l) 0; len = length l }

pub record IsName (n : Inside) : Type 0 where
  pub some : 1 ≤ n.len
  pub most : n.len ≤ 16
  pub within : n.len ≤ length n.bytes
  pub padded : n.bytes ≡ take n.len n.bytes ++ replicate (16 - n.len) 0

pub restored : (n : Inside) → IsName n → inside_of (name_bytes n) ≡ n
restored n h =
    ap (λ k. record { bytes = take n.len n.bytes ++ replicate (16 - k) 0; len = k }) (length-take-le n.len n.bytes h.within)
    ∙ ap (λ b. record { bytes = b; len = n.len }) (sym h.padded)
