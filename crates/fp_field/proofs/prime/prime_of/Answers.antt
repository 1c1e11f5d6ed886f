use Rattle.std.proofs.Common.{lit<, sym, refl}
use Rattle.fp_field.proofs.prime.prime_of.Goals as goal

pub returns-in-5-clause-some : goal.returns-in-5-clause-some
returns-in-5-clause-some c = (λ e. (2, lit< tt, sym c.in-5.is), λ h. refl)

pub returns-in-7-clause-some : goal.returns-in-7-clause-some
returns-in-7-clause-some c = (λ e. (3, lit< tt, sym c.in-7.is), λ h. refl)

pub returns-in-11-clause-some : goal.returns-in-11-clause-some
returns-in-11-clause-some c = (λ e. (4, lit< tt, sym c.in-11.is), λ h. refl)

pub returns-in-13-clause-some : goal.returns-in-13-clause-some
returns-in-13-clause-some c = (λ e. (5, lit< tt, sym c.in-13.is), λ h. refl)

pub returns-in-17-clause-some : goal.returns-in-17-clause-some
returns-in-17-clause-some c = (λ e. (6, lit< tt, sym c.in-17.is), λ h. refl)
