use Rattle.spaces.specs.Spaces.{set_of}
use Rattle.term_lang.proofs.WordsAct.{words_act}
use Rattle.term_lang.proofs.laws.words_before_simplices.Goals as goal

pub returns : goal.returns
returns c = λ X laws. words_act (set_of X) laws
