use Rattle.std.proofs.Common.{sym, ◌∙◌, ap}
use Rattle.spaces.specs.Spaces.{table}
use Rattle.term_lang.specs.Rows.{rows_of}
use Rattle.term_lang.specs.SpaceOf.{space_of}
use Rattle.term_lang.proofs.SpacesOfTerms.{space-Table, space-KZ1, space-Product, space-Bundle}
use Rattle.twist_rules.specs.PartSpaces.{base_of, fibre_of}
use Rattle.twist_rules.proofs.FibredTerms.{only_fibred}
use Rattle.twist_rules.proofs.part_terms.part_terms.Goals as goal

pub unreachable-requires : goal.unreachable-requires
unreachable-requires c = only_fibred c.args.term.now c.in_default.not-Product c.in_default.not-Bundle c.requires

pub returns-in_ok-share-in-Product-2-clause-base : goal.returns-in_ok-share-in-Product-2-clause-base
returns-in_ok-share-in-Product-2-clause-base c =
    ap space_of (c.in_ok-share-in-Product.ensures ∙ c.get.ensures) ∙ sym (ap base_of (ap space_of c.in-Product.is ∙ space-Product c.in-Product.left c.in-Product.right))

pub returns-in_ok-share-in-Product-2-clause-fibre : goal.returns-in_ok-share-in-Product-2-clause-fibre
returns-in_ok-share-in-Product-2-clause-fibre c =
    ap space_of (c.in_ok-share-in-Product-2.ensures ∙ c.get-in-Product.ensures) ∙ sym (ap fibre_of (ap space_of c.in-Product.is ∙ space-Product c.in-Product.left c.in-Product.right))

pub returns-in_ok-new-in-Bundle-2-clause-base : goal.returns-in_ok-new-in-Bundle-2-clause-base
returns-in_ok-new-in-Bundle-2-clause-base c =
    ap space_of c.in_ok-new-in-Bundle.ensures ∙ space-Table c.in_ok-copy_table-in-Bundle.field-0 ∙ ap (λ rows. table (rows_of rows)) c.in_ok-copy_table-in-Bundle.ensures
    ∙ sym (ap base_of (ap space_of c.in-Bundle.is ∙ space-Bundle c.in-Bundle.table c.in-Bundle.field-1))

pub returns-in_ok-new-in-Bundle-2-clause-fibre : goal.returns-in_ok-new-in-Bundle-2-clause-fibre
returns-in_ok-new-in-Bundle-2-clause-fibre c =
    ap space_of c.in_ok-new-in-Bundle-2.ensures ∙ space-KZ1 ∙ sym (ap fibre_of (ap space_of c.in-Bundle.is ∙ space-Bundle c.in-Bundle.table c.in-Bundle.field-1))
