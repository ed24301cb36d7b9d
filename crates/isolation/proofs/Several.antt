-- Two modules that answer, in one image: the runs are alike while the answers of both agree, by an image between the two.
use Rattle.std.proofs.Common.{◌≡◌, ◌≢◌, ⊎_elim, ℕ, zero, suc, List, sym, ap, ◌∙◌, subst, arith, true, false, ◌==◌, Option, All}
use Rattle.image_text.specs.Image.{Image}
use Rattle.run_laws.specs.Events.{EndsCall}
use Rattle.isolation.specs.Calls.{AnswersAgree}
use Rattle.pc_access.specs.Rights.{is_id}
use Rattle.schedule_file.specs.declared.Entry.{Entry as Scheduled}
use Rattle.sm_words.specs.Words.{reg}
use Rattle.std.proofs.lemmas.Bool.{cases_eq}
use Rattle.std.proofs.lemmas.Bool.Decides.{nat_tests}
use Rattle.written_machine.specs.Cycle.{cycle}
use Rattle.written_machine.specs.Peers.{PeersBut}
use Rattle.written_machine.specs.Trace.{trace}
use Rattle.written_machine.specs.View.{at, is_hidden_by, view_of}
use Rattle.written_machine.specs.declared.Hidden.TheVariants.{All as AllHidden, Only}
use Rattle.isolation.proofs.Active.{active_some}
use Rattle.run_laws.proofs.Tame.{ends_active}
use Rattle.isolation.proofs.Telling.{seen_active, seen_core, all_seen, traces_while}
use Rattle.isolation.proofs.Whole.{views_while, events_while}

-- another module is not hidden
apart : (m p : ℕ) (a : Option ℕ) → m ≢ p → is_id m a ≡ true → is_hidden_by (Only p) a ≡ false
apart m p a ne h = ap (is_hidden_by (Only p)) (active_some m a h) ∙ (let f : (m == p) ≡ false = grind (arith, nat_tests) in f)

one_more : (a b : Image) (m : ℕ) (answers : List ℕ) (schedule : List Scheduled) (n : ℕ) → AnswersAgree a b m answers schedule n →
    (EndsCall m (cycle (at a schedule n)).events → All (λ r. reg (at a schedule n).core r ≡ reg (at b schedule n).core r) answers) → AnswersAgree a b m answers schedule (suc n)
one_more a b m answers schedule n before last j lt e =
    ⊎_elim
    (λ same. subst (λ k. All (λ r. reg (at a schedule k).core r ≡ reg (at b schedule k).core r) answers) (sym same) (last (subst (λ k. EndsCall m (cycle (at a schedule k)).events) same e)))
    (λ other. before j (omega arith) e)
    (cases_eq j n)

module _ (a c b : Image) (m p : ℕ) (answers replies : List ℕ) (schedule : List Scheduled) (ne : m ≢ p) (first : PeersBut a c m answers) (second : PeersBut c b p replies) where
  abbrev First : ℕ → Type 0
  First n = AnswersAgree a c m answers schedule n

  abbrev Second : ℕ → Type 0
  Second n = AnswersAgree c b p replies schedule n

  first_more : (n : ℕ) → First n → Second n → AnswersAgree a b m answers schedule (suc n) → First (suc n)
  first_more n x y agree = one_more a c m answers schedule n x (λ e.
      let active = ap (is_id m) (sym (seen_active m (at a schedule n) (at c schedule n) (views_while a c m answers schedule first n x))) ∙ ends_active m (at a schedule n) e in
      let core = seen_core p (at c schedule n) (at b schedule n) (views_while c b p replies schedule second n y) (apart m p (at c schedule n).active ne active) in
      subst (λ l. All (λ r. reg (at a schedule n).core r ≡ reg l r) answers) (sym core) (agree n (omega arith) e))

  second_more : (n : ℕ) → First (suc n) → Second n → AnswersAgree a b p replies schedule (suc n) → Second (suc n)
  second_more n x y agree = one_more c b p replies schedule n y (λ e.
      let ends = subst (EndsCall p) (sym (events_while a c m answers schedule first n x)) e in
      let active = ends_active p (at a schedule n) ends in
      let core = seen_core m (at a schedule n) (at c schedule n) (views_while a c m answers schedule first n (λ j lt. x j (omega arith))) (apart p m (at a schedule n).active (λ k. ne (sym k)) active) in
      subst (λ l. All (λ r. reg l r ≡ reg (at b schedule n).core r) replies) core (agree n (omega arith) ends))

  both : (n : ℕ) → AnswersAgree a b m answers schedule n → AnswersAgree a b p replies schedule n → First n × Second n
  both zero u v = (λ j lt e. absurd (omega arith), λ j lt e. absurd (omega arith))
  both (suc n) u v =
      let before = both n (λ j lt. u j (omega arith)) (λ j lt. v j (omega arith)) in
      let x = first_more n before.0 before.1 u in
      (x, second_more n x before.1 v)

  pub two_views : (n : ℕ) → AnswersAgree a b m answers schedule n → AnswersAgree a b p replies schedule n → view_of (at a schedule n) AllHidden ≡ view_of (at b schedule n) AllHidden
  two_views n u v =
      let q = both n u v in
      all_seen m (at a schedule n) (at c schedule n) (views_while a c m answers schedule first n q.0) ∙ all_seen p (at c schedule n) (at b schedule n) (views_while c b p replies schedule second n q.1)

  pub two_traces : (n : ℕ) → AnswersAgree a b m answers schedule n → AnswersAgree a b p replies schedule n → trace a schedule n ≡ trace b schedule n
  two_traces n u v = let q = both n u v in traces_while a c m answers schedule first n q.0 ∙ traces_while c b p replies schedule second n q.1
