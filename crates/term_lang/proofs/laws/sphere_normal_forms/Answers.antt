use Rattle.term_lang.proofs.SphereForms.{masked_sphere, sphere_forms, sphere_cells}
use Rattle.term_lang.proofs.laws.sphere_normal_forms.Goals as goal

pub returns : goal.returns
returns c = record { masks = masked_sphere; simplices = sphere_forms; cells = sphere_cells }
