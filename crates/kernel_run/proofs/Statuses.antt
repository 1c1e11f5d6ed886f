-- What the status of a session says of its output.
use Rattle.std.proofs.Common.{◌≡◌, ℕ, ◌<◌, ◌≤◌, List, length, Option, Some, None, ◌⊎◌, inl, inr, arith, IfSome, refl}
use Rattle.port_io.specs.Ports.{PortState, Rose}
use Rattle.kernel_run.specs.Kernel.{WritesFresh}
use Rattle.kernel_run.specs.Outcome.{Outcome, IsComplete, HasLengthFor}
use Rattle.kernel_run.specs.Words.{code_of}
use Rattle.kernel_run.specs.declared.report.SessionReport.{SessionReport}
use Rattle.kernel_run.specs.declared.report.End.{End}
use Rattle.kernel_run.specs.declared.report.End.TheVariants.{Finished, Long, ReadFault, WriteFault, Memory}

complete : (e : End) (code : ℕ) → code ≡ code_of e → (code ≡ 0) ⊎ (code ≡ 4) → IsComplete e
complete Finished code is w = tt
complete Long code is w = tt
complete ReadFault code is (inl z) = absurd (omega (arith, is, z))
complete ReadFault code is (inr z) = absurd (omega (arith, is, z))
complete WriteFault code is (inl z) = absurd (omega (arith, is, z))
complete WriteFault code is (inr z) = absurd (omega (arith, is, z))
complete Memory code is (inl z) = absurd (omega (arith, is, z))
complete Memory code is (inr z) = absurd (omega (arith, is, z))

long : (e : End) (code : ℕ) (input : List ℕ) → code ≡ code_of e → HasLengthFor e input → code ≡ 4 → 16777216 < length input
long Finished code input is h z = absurd (omega (arith, is, z))
long Long code input is h z = h
long ReadFault code input is h z = absurd (omega (arith, is, z))
long WriteFault code input is h z = absurd (omega (arith, is, z))
long Memory code input is h z = absurd (omega (arith, is, z))

short : (e : End) (code : ℕ) (input : List ℕ) → code ≡ code_of e → HasLengthFor e input → code ≡ 0 → length input ≤ 16777216
short Finished code input is h z = h
short Long code input is h z = absurd (omega (arith, is, z))
short ReadFault code input is h z = absurd (omega (arith, is, z))
short WriteFault code input is h z = absurd (omega (arith, is, z))
short Memory code input is h z = absurd (omega (arith, is, z))

pub read_fault_of : (e : End) (code : ℕ) → code ≡ code_of e → code ≡ 3 → (e ≡ WriteFault → ⊥) → e ≡ ReadFault
read_fault_of Finished code is three not = absurd (omega (arith, is, three))
read_fault_of Long code is three not = absurd (omega (arith, is, three))
read_fault_of ReadFault code is three not = refl
read_fault_of WriteFault code is three not = absurd (not refl)
read_fault_of Memory code is three not = absurd (omega (arith, is, three))

write_fault_of : (e : End) (code : ℕ) → code ≡ code_of e → code ≡ 3 → (e ≡ ReadFault → ⊥) → e ≡ WriteFault
write_fault_of Finished code is three not = absurd (omega (arith, is, three))
write_fault_of Long code is three not = absurd (omega (arith, is, three))
write_fault_of ReadFault code is three not = absurd (not refl)
write_fault_of WriteFault code is three not = refl
write_fault_of Memory code is three not = absurd (omega (arith, is, three))

pub long_of : (e : End) (code : ℕ) → code ≡ code_of e → code ≡ 4 → e ≡ Long
long_of Finished code is four = absurd (omega (arith, is, four))
long_of Long code is four = refl
long_of ReadFault code is four = absurd (omega (arith, is, four))
long_of WriteFault code is four = absurd (omega (arith, is, four))
long_of Memory code is four = absurd (omega (arith, is, four))

pub fresh_output : (left : Option (List ℕ)) (a b : PortState) (report : SessionReport) (code : ℕ) → code ≡ code_of report.end
    → IfSome left (λ input. Outcome input a.written b.written report) → IfSome left (λ input. HasLengthFor report.end input)
    → (report.end ≡ ReadFault → Rose a.read_faults b.read_faults) → IfSome left (λ input. WritesFresh input a b code)
fresh_output None a b report code is o h read = tt
fresh_output (Some input) a b report code is o h read = record {
  wrote = o.wrote;
  written = o.written;
  not_written = o.not_written;
  front = o.front;
  whole = λ w. o.whole (complete report.end code is w);
  less = λ three not. o.short (write_fault_of report.end code is three (λ e. not (read e)));
  long = long report.end code input is h;
  short = short report.end code input is h;
}
