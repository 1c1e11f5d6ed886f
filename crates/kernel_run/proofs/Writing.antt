-- Writes one after the other.
use Rattle.std.proofs.Common.{◌≡◌, ℕ, ◌<◌, List, ◌++◌, length, take, drop, Option, Some, None, sym, ◌∙◌, ap, refl, arith, append_assoc, length-append, subst}
use Rattle.std.proofs.lemmas.List.{take-append-drop}
use Rattle.std.proofs.Math.Seq.{take-append_seam}
use Rattle.std.specs.Io.KnownBytes.{append_known}
use Rattle.port_io.specs.Ports.{PortState, Rose}
use Rattle.kernel_run.specs.Session.{ReadsNothing, WritesOn, WritesPart}

pub record WroteSoFar (before after : PortState) (text rest : List ℕ) : Type 0 where
  pub done : List ℕ
  pub parts : text ≡ done ++ rest
  pub wrote : WritesOn before after done
  pub reads : ReadsNothing before after

pub append-append : (o : Option (List ℕ)) (xs ys : List ℕ) → append_known (append_known o xs) ys ≡ append_known o (xs ++ ys)
append-append None xs ys = refl
append-append (Some zs) xs ys = ap Some (append_assoc zs xs ys)

pub wrote_more : (a b c : PortState) (text rest : List ℕ) (n : ℕ) → WroteSoFar a b text rest → c.written ≡ append_known b.written (take n rest) → c.write_faults ≡ b.write_faults → ReadsNothing b c → WroteSoFar a c text (drop n rest)
wrote_more a b c text rest n sofar written faults reads = record {
  done = sofar.done ++ take n rest;
  parts = sofar.parts ∙ ap (λ r. sofar.done ++ r) (sym (take-append-drop n rest)) ∙ sym (append_assoc sofar.done (take n rest) (drop n rest));
  wrote = record { written = written ∙ ap (λ o. append_known o (take n rest)) sofar.wrote.written ∙ append-append a.written sofar.done (take n rest); write_faults = faults ∙ sofar.wrote.write_faults };
  reads = record { left = reads.left ∙ sofar.reads.left; read_faults = reads.read_faults ∙ sofar.reads.read_faults; bytes_read = reads.bytes_read ∙ sofar.reads.bytes_read; empty_reads = reads.empty_reads ∙ sofar.reads.empty_reads };
}

pub wrote_part : (a b c : PortState) (text rest : List ℕ) → WroteSoFar a b text rest → 0 < length rest → c.written ≡ b.written → Rose b.write_faults c.write_faults → WritesPart a c text
wrote_part a b c text rest sofar some written rose = record {
  count = length sofar.done;
  less = omega (arith, some, ap length sofar.parts, length-append sofar.done rest);
  written = written ∙ sofar.wrote.written ∙ ap (append_known a.written) (sym (ap (take (length sofar.done)) sofar.parts ∙ take-append_seam sofar.done rest));
  write_faults = subst (λ k. Rose k c.write_faults) sofar.wrote.write_faults rose;
}
