use Rattle.std.proofs.Common.{refl, ◌∙◌, ap}
use Rattle.ez_maps.specs.Tensors.{bare}
use Rattle.ez_maps.proofs.TensorForms.{bare-is}
use Rattle.ez_maps.proofs.tensor_faces.bare_simplex.Goals as goal

pub returns : goal.returns
returns c = bare-is _ refl ∙ ap bare c.in_ok-copy_cell.ensures
