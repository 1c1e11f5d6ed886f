use Rattle.std.proofs.Common.{[], refl, ◌∙◌, ap}
use Rattle.fp_field.specs.declared.prime.Prime.{Prime}
use Rattle.term_lang.specs.declared.terms.Term.TheVariants.{Sphere as SphereTerm}
use Rattle.script_lang.specs.declared.commands.Command.TheVariants.{Betti, Homology}
use Rattle.script_lang.specs.declared.exprs.Expr.TheVariants.{Name, Sphere, Suspension, Loop}
use Rattle.reply_text.specs.declared.refusals.Refusal.TheVariants.{UnknownName, BadSphere, Degree}
use Rattle.session_core.specs.Answer.{State, answer, told_suspension, told_space}
use Rattle.session_core.proofs.Layers.{told-Name, told-Sphere, built-Name, built-Sphere, unbuilt-Suspension, unbuilt-Loop, told-Suspension, told-first, refused-first, answer-unbuilt, answer-refused}
use Rattle.session_core.proofs.order.worked_answers.Goals as goal

at : Prime → State
at p = record { names = []; prime = p }

pub returns : goal.returns
unfolding answer at
returns c =
    record {
      unbuilt = λ p. answer-unbuilt (at p) (Betti (Suspension (Loop (Name []))) 17 18) (unbuilt-Suspension (Loop (Name [])) ∙ unbuilt-Loop (Name []));
      part = λ p. answer-refused (at p) (Homology (Suspension (Sphere 17)) 18) (BadSphere 17) (unbuilt-Suspension (Sphere 17) ∙ built-Sphere 17)
          (refused-first (told_space [] (Suspension (Sphere 17))) _ (BadSphere 17) (told-Suspension [] (Sphere 17) ∙ ap told_suspension (told-Sphere [] 17)));
      space = λ p. answer-refused (at p) (Betti (Name []) 17 18) (UnknownName []) (built-Name []) (refused-first (told_space [] (Name [])) _ (UnknownName []) (told-Name [] []));
      sphere = λ p. answer-refused (at p) (Homology (Sphere 17) 18) (BadSphere 17) (built-Sphere 17) (refused-first (told_space [] (Sphere 17)) _ (BadSphere 17) (told-Sphere [] 17));
      degrees = λ p. answer-refused (at p) (Betti (Sphere 16) 17 18) (Degree 17) (built-Sphere 16) (told-first (told_space [] (Sphere 16)) _ (SphereTerm 16) (told-Sphere [] 16));
      second = λ p. answer-refused (at p) (Betti (Sphere 16) 16 18) (Degree 18) (built-Sphere 16) (told-first (told_space [] (Sphere 16)) _ (SphereTerm 16) (told-Sphere [] 16));
      field = λ p. refl;
      other = λ p. refl;
    }
