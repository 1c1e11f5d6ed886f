use Rattle.std.proofs.Common.{refl, ◌∙◌}
use Rattle.std.specs.List.{fold}
use Rattle.std.specs.Hash.{fed_then}
use Rattle.std.specs.Hash as fed
use Rattle.term_lang.specs.declared.terms.Term.TheVariants.{rolls-Table, rolls-Sphere, rolls-Product, rolls-Suspension, rolls-KZ1, rolls-Bundle, rolls-Loop, rolls-Path}
use Rattle.term_lang.specs.TermHash.{table_input, term_input}
use Rattle.term_lang.proofs.TermInputs.{written}
use Rattle.term_lang.proofs.hashes.TermHash.+hash.Goals as goal

pub returns-in-Table : goal.returns-in-Table
returns-in-Table g t c =
    written g.H.Hasher.write c.args.state.now c.write_u8.new.self _ c.kind.result c.args.self.now _ _ c.kind.ensures c.in-Table.is (rolls-Table c.in-Table.rows) c.write_u8.ensures c.hash.ensures

pub returns-in-Sphere : goal.returns-in-Sphere
returns-in-Sphere g t c =
    written g.H.Hasher.write c.args.state.now c.write_u8.new.self _ c.kind.result c.args.self.now _ _ c.kind.ensures c.in-Sphere.is (rolls-Sphere c.in-Sphere.n) c.write_u8.ensures c.write_u32.ensures

pub returns-in-Product : goal.returns-in-Product
returns-in-Product g t c =
    written g.H.Hasher.write c.args.state.now c.write_u8.new.self _ c.kind.result c.args.self.now _ _ c.kind.ensures c.in-Product.is (rolls-Product c.in-Product.a c.in-Product.b)
    c.write_u8.ensures
    (fed_then g.H.Hasher.write c.write_u8.new.self c.hash-in-Product.new.state c.hash-in-Product-2.new.state (term_input c.in-Product.a) (term_input c.in-Product.b)
    (c.hash-in-Product.ensures ∙ (λ i. fold g.H.Hasher.write c.write_u8.new.self (term_input (c.get.ensures i))))
    (c.hash-in-Product-2.ensures ∙ (λ i. fold g.H.Hasher.write c.hash-in-Product.new.state (term_input (c.get-in-Product.ensures i)))))

pub returns-in-Suspension : goal.returns-in-Suspension
returns-in-Suspension g t c =
    written g.H.Hasher.write c.args.state.now c.write_u8.new.self _ c.kind.result c.args.self.now _ _ c.kind.ensures c.in-Suspension.is (rolls-Suspension c.in-Suspension.a) c.write_u8.ensures
    (c.hash-in-Suspension.ensures ∙ (λ i. fold g.H.Hasher.write c.write_u8.new.self (term_input (c.get-in-Suspension.ensures i))))

pub returns-in-KZ1 : goal.returns-in-KZ1
returns-in-KZ1 g t c =
    written g.H.Hasher.write c.args.state.now c.write_u8.new.self _ c.kind.result c.args.self.now _ _ c.kind.ensures c.in-KZ1.is rolls-KZ1 c.write_u8.ensures refl

pub returns-in-Bundle : goal.returns-in-Bundle
returns-in-Bundle g t c =
    written g.H.Hasher.write c.args.state.now c.write_u8.new.self _ c.kind.result c.args.self.now _ _ c.kind.ensures c.in-Bundle.is (rolls-Bundle c.in-Bundle.rows c.in-Bundle.values)
    c.write_u8.ensures
    (fed_then g.H.Hasher.write c.write_u8.new.self c.hash-in-Bundle.new.state c.hash-in-Bundle-2.new.state (table_input c.in-Bundle.rows) (fed.slice fed.i64 c.in-Bundle.values) c.hash-in-Bundle.ensures c.hash-in-Bundle-2.ensures)

pub returns-in-Loop : goal.returns-in-Loop
returns-in-Loop g t c =
    written g.H.Hasher.write c.args.state.now c.write_u8.new.self _ c.kind.result c.args.self.now _ _ c.kind.ensures c.in-Loop.is (rolls-Loop c.in-Loop.a) c.write_u8.ensures
    (c.hash-in-Loop.ensures ∙ (λ i. fold g.H.Hasher.write c.write_u8.new.self (term_input (c.get-in-Loop.ensures i))))

pub returns-in-Path : goal.returns-in-Path
returns-in-Path g t c =
    written g.H.Hasher.write c.args.state.now c.write_u8.new.self _ c.kind.result c.args.self.now _ _ c.kind.ensures c.in-Path.is (rolls-Path c.in-Path.a) c.write_u8.ensures
    (c.hash-in-Path.ensures ∙ (λ i. fold g.H.Hasher.write c.write_u8.new.self (term_input (c.get-in-Path.ensures i))))
