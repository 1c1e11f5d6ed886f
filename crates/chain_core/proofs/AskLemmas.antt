-- Lists of asks that are made one after the other.
use Rattle.std.proofs.Common.{List, [], ◌∷◌, ◌++◌, Option, refl, sym, ◌∙◌, ap, subst, append_assoc}
use Rattle.std.specs.Prelude.{Some, None}
use Rattle.chain_core.proofs.ChainLemmas.{append-nil}
use Rattle.chain_core.specs.Asks.{MayAsk, NoneRefused, NoneRefusedButLast, AskedAll, AskedPart, AskedUntil}

module _ {A R : Type 0} (refusal : A → Option R) where
  pub NoneRefused-append : (a b : List A) → NoneRefused refusal a → NoneRefused refusal b → NoneRefused refusal (a ++ b)
  NoneRefused-append [] b g h = h
  NoneRefused-append (x ∷ a) b g h = (g.0, NoneRefused-append a b g.1 h)

  pub ButLast-append : (a b : List A) → NoneRefused refusal a → NoneRefusedButLast refusal b → NoneRefusedButLast refusal (a ++ b)
  ButLast-append [] b g h = h
  ButLast-append (x ∷ []) [] g h = tt
  ButLast-append (x ∷ []) (y ∷ b) g h = (g.0, h)
  ButLast-append (x ∷ (y ∷ a)) b g h = (g.0, ButLast-append (y ∷ a) b g.1 h)

module _ {S A R : Type 0} (can : S → A → Type 0) (runs : S → List A → S → Type 0) (refusal : A → Option R)
    (both : (s t u : S) (a b : List A) → runs s a t → runs t b u → runs s (a ++ b) u) where
  pub MayAsk-rest : (s t : S) (a b : List A) → MayAsk can runs s (a ++ b) → runs s a t → MayAsk can runs t b
  MayAsk-rest s t a b may ran before x after u order ran' =
      may (a ++ before) x after u (ap (λ l. a ++ l) order ∙ sym (append_assoc a before (x ∷ after))) (both s t u a before ran ran')

  pub AskedAll-both : (s t u : S) (a b : List A) → AskedAll runs refusal s a t → AskedAll runs refusal t b u → AskedAll runs refusal s (a ++ b) u
  AskedAll-both s t u a b g h = record { ran = both s t u a b g.ran h.ran; granted = NoneRefused-append refusal a b g.granted h.granted }

  pub until_after : (s t u : S) (a b : List A) (r : Option R) → AskedAll runs refusal s a t → AskedUntil runs refusal t b u r → AskedUntil runs refusal s (a ++ b) u r
  until_after s t u a b (Some r) g h = record {
    before = a ++ h.before;
    ask = h.ask;
    after = h.after;
    order = ap (λ l. a ++ l) h.order ∙ sym (append_assoc a h.before (h.ask ∷ h.after));
    granted = NoneRefused-append refusal a h.before g.granted h.granted;
    refused = h.refused;
    ran = subst (λ l. runs s l u) (sym (append_assoc a h.before (h.ask ∷ []))) (both s t u a (h.before ++ h.ask ∷ []) g.ran h.ran);
  }
  until_after s t u a b None g h = record {
    before = a ++ h.before;
    after = h.after;
    order = ap (λ l. a ++ l) h.order ∙ sym (append_assoc a h.before h.after);
    ran = both s t u a h.before g.ran h.ran;
    granted = ButLast-append refusal a h.before g.granted h.granted;
  }

  pub until_first : (s t : S) (a b : List A) (r : Option R) → AskedUntil runs refusal s a t r → AskedUntil runs refusal s (a ++ b) t r
  until_first s t a b (Some r) h = record {
    before = h.before;
    ask = h.ask;
    after = h.after ++ b;
    order = ap (λ l. l ++ b) h.order ∙ append_assoc h.before (h.ask ∷ h.after) b;
    granted = h.granted;
    refused = h.refused;
    ran = h.ran;
  }
  until_first s t a b None h = record { before = h.before; after = h.after ++ b; order = ap (λ l. l ++ b) h.order ∙ append_assoc h.before h.after b; ran = h.ran; granted = h.granted }

  pub MayAsk-first : (s : S) (a b : List A) → MayAsk can runs s (a ++ b) → MayAsk can runs s a
  MayAsk-first s a b may before x after u order ran = may before x (after ++ b) u (ap (λ l. l ++ b) order ∙ append_assoc before (x ∷ after) b) ran

  all_but_last : (a : List A) → NoneRefused refusal a → NoneRefusedButLast refusal a
  all_but_last [] h = tt
  all_but_last (x ∷ []) h = tt
  all_but_last (x ∷ (y ∷ a)) h = (h.0, all_but_last (y ∷ a) h.1)

  pub part_of_all : (s t : S) (a b : List A) → AskedAll runs refusal s a t → AskedPart runs refusal s (a ++ b) t
  part_of_all s t a b h = record { before = a; after = b; order = refl; ran = h.ran; granted = all_but_last a h.granted }

  pub part_of_whole : (s t : S) (a : List A) → AskedAll runs refusal s a t → AskedPart runs refusal s a t
  part_of_whole s t a h = record { before = a; after = []; order = sym (append-nil a); ran = h.ran; granted = all_but_last a h.granted }
