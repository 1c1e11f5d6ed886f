-- Ports that move into jobs and back.
use Rattle.std.proofs.Common.{◌≡◌, ℕ, ◌<◌, List, [], ◌∷◌, ◌++◌, map, reverse, length, take, drop, slice_index_or, slice_set, suc, refl, ap, sym, subst, ◌∙◌, ◌≤◌, inl, append_assoc, arith}
use Rattle.std.proofs.lemmas.List.{reverse-append, reverse-reverse, take_at, drop_at, map_push}
use Rattle.port_io.specs.Ports.{PortState}
use Rattle.kernel_run.specs.Batch.{SessionOver, EachSession, BatchOver, ends_of}
use Rattle.kernel_run.specs.Jobs.{ports_of, reports_of}
use Rattle.kernel_run.specs.Progress.{WritesBy}
use Rattle.kernel_run.specs.Session.{ReadsNothing}
use Rattle.kernel_run.specs.Summary.{summary}
use Rattle.kernel_run.specs.Words.{code_of_all}
use Rattle.kernel_run.specs.declared.report.End.{End}
use Rattle.kernel_run.specs.declared.jobs.Job.{Job}

map-reverse : {A B : Type 0} (f : A → B) (xs : List A) → map f (reverse xs) ≡ reverse (map f xs)
map-reverse f [] = refl
map-reverse f (x ∷ xs) = ap (map f) (reverse-append (x ∷ []) xs) ∙ map_push f (reverse xs) x ∙ ap (λ l. l ++ f x ∷ []) (map-reverse f xs) ∙ sym (reverse-append (f x ∷ []) (map f xs))

reverse_push : {A : Type 0} (xs : List A) (x : A) → reverse (xs ++ x ∷ []) ≡ x ∷ reverse xs
reverse_push xs x = reverse-append xs (x ∷ [])

module _ {P : Type 0} where
  last_port : (jobs : List (Job P)) (job : Job P) → reverse (ports_of (jobs ++ job ∷ [])) ≡ job.port ∷ reverse (ports_of jobs)
  last_port jobs job = ap reverse (map_push (λ j. j.port) jobs job) ∙ reverse_push (ports_of jobs) job.port

  -- the last port becomes a job behind the others
  pub taken_one : (all rest : List P) (jobs : List (Job P)) (job : Job P) → all ≡ (rest ++ job.port ∷ []) ++ reverse (ports_of jobs) → all ≡ rest ++ reverse (ports_of (jobs ++ job ∷ []))
  taken_one all rest jobs job is = is ∙ append_assoc rest (job.port ∷ []) (reverse (ports_of jobs)) ∙ ap (λ l. rest ++ l) (sym (last_port jobs job))

  -- the last job gives its port back behind the others
  pub given_one : (all ports : List P) (jobs : List (Job P)) (job : Job P) → all ≡ ports ++ reverse (ports_of (jobs ++ job ∷ [])) → all ≡ (ports ++ job.port ∷ []) ++ reverse (ports_of jobs)
  given_one all ports jobs job is = is ∙ ap (λ l. ports ++ l) (last_port jobs job) ∙ sym (append_assoc ports (job.port ∷ []) (reverse (ports_of jobs)))

  pub reversed_ports : (jobs : List (Job P)) → ports_of (reverse jobs) ≡ reverse (ports_of jobs)
  reversed_ports jobs = map-reverse (λ j. j.port) jobs

  pub ports_again : (jobs : List (Job P)) → reverse (ports_of (reverse jobs)) ≡ ports_of jobs
  ports_again jobs = ap reverse (reversed_ports jobs) ∙ reverse-reverse (ports_of jobs)

  pub taken_ports : (all rest : List P) (jobs : List (Job P)) → all ≡ rest ++ reverse (ports_of jobs) → length rest ≡ 2 → rest ≡ take 2 all
  taken_ports all rest jobs is two = sym (ap (take 2) is ∙ take_at rest (reverse (ports_of jobs)) 2 two)

  pub taken_jobs : (all rest : List P) (jobs : List (Job P)) → all ≡ rest ++ reverse (ports_of jobs) → length rest ≡ 2 → ports_of (reverse jobs) ≡ drop 2 all
  taken_jobs all rest jobs is two = reversed_ports jobs ∙ sym (ap (drop 2) is ∙ drop_at rest (reverse (ports_of jobs)) 2 two)

  -- what holds at each place holds in order
  pub each_session : (state : P → PortState) (olds news : List (Job P)) → length news ≡ length olds
      → ((i : ℕ) (d : Job P) → i < length olds → SessionOver (state (slice_index_or olds i d).port) (state (slice_index_or news i d).port) (slice_index_or news i d).report)
      → EachSession (map state (ports_of olds)) (map state (ports_of news)) (reports_of news)
  each_session state [] [] l e = tt
  each_session state [] (y ∷ ys) l e = absurd (omega (arith, l))
  each_session state (x ∷ xs) [] l e = absurd (omega (arith, l))
  each_session state (x ∷ xs) (y ∷ ys) l e = (e 0 x (omega arith), each_session state xs ys (omega (arith, l)) (λ i d h. e (suc i) d (omega (arith, h))))

  -- the jobs that came back are those that the lines and the status were read from
  pub batch_over : (state : P → PortState) (words : List (List ℕ)) (all first final : List P) (jobs after back listed counted : List (Job P)) (console later : P) (shown : End) (code : ℕ)
      → 2 ≤ length all → first ≡ take 2 all → ports_of jobs ≡ drop 2 all → console ≡ slice_index_or first 0 console
      → back ≡ after → listed ≡ back → counted ≡ back → final ≡ slice_set first 0 later ++ ports_of back
      → EachSession (map state (ports_of jobs)) (map state (ports_of after)) (reports_of after)
      → WritesBy shown (state console) (state later) (summary (drop 1 words) (reports_of listed)) → ReadsNothing (state console) (state later)
      → code ≡ code_of_all (shown ∷ ends_of (reports_of counted))
      → BatchOver words (map state all) (map state final) code
  batch_over state words [] first final jobs after back listed counted console later shown code two f j c b l k is each lines reads status = absurd (omega (arith, two))
  batch_over state words (a ∷ []) first final jobs after back listed counted console later shown code two f j c b l k is each lines reads status = absurd (omega (arith, two))
  batch_over state words (a ∷ p ∷ rest) first final jobs after back listed counted console later shown code two f j c b l k is each lines reads status =
      let at : console ≡ a = c ∙ ap (λ ports. slice_index_or ports 0 console) f in
      let ends : final ≡ later ∷ p ∷ ports_of after = is ∙ (λ i. slice_set (f i) 0 later ++ ports_of (b i)) in
      rw ends (inl (record {
        reports = reports_of after;
        sessions = subst (λ ports. EachSession (map state ports) (map state (ports_of after)) (reports_of after)) j each;
        shown = shown;
        lines = subst (λ rows. WritesBy shown (state a) (state later) (summary (drop 1 words) (reports_of rows))) (l ∙ b) (subst (λ q. WritesBy shown (state q) (state later) (summary (drop 1 words) (reports_of listed))) at lines);
        reads = subst (λ q. ReadsNothing (state q) (state later)) at reads;
        status = status ∙ ap (λ rows. code_of_all (shown ∷ ends_of (reports_of rows))) (k ∙ b);
      }))
