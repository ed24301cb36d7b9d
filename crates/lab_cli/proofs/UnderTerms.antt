-- What comes of an image, terms and certificates, and of an answer with status 0.
use Rattle.std.proofs.Common.{◌≡◌, ℕ, List, [], ◌∷◌, Option, Some, None, is_some, true, refl, sym, ◌∙◌, ap, ap₂, subst}
use Rattle.sm_io.specs.Files.{FileMap}
use Rattle.mod_layout.specs.declared.Module.{Module}
use Rattle.mod_layout.specs.Table.{module_of}
use Rattle.image_text.specs.Image.{Image}
use Rattle.arm_balance.specs.declared.Arm.{Arm}
use Rattle.written_machine.specs.Peers.{section}
use Rattle.terms_file.specs.declared.Term.{Term}
use Rattle.cli_files.specs.declared.answers.Status.TheVariants.{Done, CheckNo}
use Rattle.cli_files.specs.Files.{Held, an_image, the_terms, certificates, image_with, terms_file, need, Holds, HoldAll}
use Rattle.cli_calls.specs.Command.{Answer, Outcome, nothing, Comes, Answers, IsAnswer}
use Rattle.cli_calls.specs.Ids.{id_of}
use Rattle.cli_calls.specs.Values.{file_named}
use Rattle.cli_calls.specs.Words.{Text}
use Rattle.cli_calls.proofs.Outcomes.{one_outcome}
use Rattle.cli_calls.proofs.Sound.{Sound, IfSound, if_none, if_map}
use Rattle.lab_cli.specs.PublicWords.{not_data, on_data}
use Rattle.lab_cli.specs.UnderTerms.{Judging, with_arms, arms_needs, told_needs, judged_by, judged_command, judged_in, read_judged}
use Rattle.lab_cli.specs.internal.UnderTerms.{AreArmsOf}

-- an address at which no word stands comes to a no
some_told : (o : Option ℕ) (outcome : Outcome) → (outcome ≡ nothing → ⊥) → on_data o outcome ≡ nothing → ⊥
some_told None outcome some e = some e
some_told (Some a) outcome some e = cc

-- so where the status is 0 there is none
done_told : (o : Option ℕ) (outcome : Outcome) (answer : Answer) → Answers (on_data o outcome) answer
    → answer.status ≡ Done → Answers outcome answer
done_told None outcome answer told e = told
done_told (Some a) outcome answer told e =
    let clash : CheckNo ≡ Done = ap (λ (b : Answer). b.status) told ∙ e in absurd cc

-- what comes of the file of certificates, or of none, is the outcome of some certificates
armed : (files : Option FileMap) (outcome : List Arm → Outcome) (name : Option Text) (helds : List Held)
    → HoldAll files (arms_needs name) helds → (arms : List Arm) × (with_arms outcome helds ≡ outcome arms)
armed files outcome None [] h = ([], refl)
armed files outcome None (held ∷ more) h = absurd h
armed files outcome (Some name) [] h = absurd h
armed files outcome (Some name) (certificates arms ∷ []) h = (arms, refl)
armed files outcome (Some name) (certificates arms ∷ held ∷ more) h = absurd h.1
armed files outcome (Some name) (held ∷ more) h = absurd h.0.is

module _ (judging : Judging) where
  -- what comes of it is something
  abbrev pub IsSomething : Type 0
  IsSomething = (terms : List Term) (owner : Module) (text : List ℕ) (arms : List Arm)
      → judging terms owner text arms ≡ nothing → ⊥

  some_judged : IsSomething → (value : Image) (terms : List Term) (arms : List Arm) (o : Option Module)
      → is_some o ≡ true → judged_by judging value terms arms o ≡ nothing → ⊥
  some_judged some value terms arms None s e = cc
  some_judged some value terms arms (Some owner) s e =
      let text = section owner.text value.memory in
      some_told (not_data owner terms) (judging terms owner text arms) (some terms owner text arms) e

  sound_judged : IsSomething → (name : Text) (id : ℕ) (terms : Text) (arms : Option Text)
      → Sound (judged_command judging name id terms arms)
  sound_judged some name id terms arms map [] h e = h
  sound_judged some name id terms arms map (held ∷ []) h e = h.1
  sound_judged some name id terms arms map (an_image value ∷ the_terms told ∷ more) h e =
      let owner = module_of id value.table in
      let own = armed (Some map) (λ arms. judged_by judging value told arms owner) arms more h.1.1 in
      some_judged some value told own.0 owner h.0.is.1 (sym own.1 ∙ e)
  sound_judged some name id terms arms map (an_image value ∷ held ∷ more) h e = h.1.0.is
  sound_judged some name id terms arms map (held ∷ second ∷ more) h e = h.0.is

  pub of_judged : IsSomething → (values : List Text) → IfSound (read_judged judging values)
  of_judged some (name ∷ id ∷ terms ∷ arms ∷ []) =
      if_map (judged_in judging name terms (file_named arms)) (id_of id)
      (λ own. sound_judged some name own terms (file_named arms))
  of_judged some _ = if_none

  -- what comes of an image, terms and certificates
  pub judged_comes : (files : Option FileMap) (name : Text) (id : ℕ) (terms_name : Text) (arms_name : Option Text)
      (value : Image) (owner : Module) (terms : List Term) (arms : List Arm) (o : Option ℕ)
      → Holds files (need name (image_with id)) (an_image value)
      → Holds files (need terms_name terms_file) (the_terms terms) → AreArmsOf files arms_name arms
      → module_of id value.table ≡ Some owner → o ≡ not_data owner terms
      → Comes files (judged_command judging name id terms_name arms_name)
      (on_data o (judging terms owner (section owner.text value.memory) arms))
  judged_comes files name id terms_name None value owner terms arms o h t a owned e =
      let text = section owner.text value.memory in
      record {
        helds = an_image value ∷ the_terms terms ∷ [];
        hold = (h, (t, tt));
        is = ap (judged_by judging value terms []) owned
            ∙ ap₂ (λ (p : Option ℕ) (l : List Arm). on_data p (judging terms owner text l)) (sym e) (sym a);
      }
  judged_comes files name id terms_name (Some own) value owner terms arms o h t a owned e =
      let text = section owner.text value.memory in
      record {
        helds = an_image value ∷ the_terms terms ∷ certificates arms ∷ [];
        hold = (h, (t, (a, tt)));
        is = ap (judged_by judging value terms arms) owned
            ∙ ap (λ (p : Option ℕ). on_data p (judging terms owner text arms)) (sym e);
      }

module _ (judging : Judging) (map : FileMap) (name terms_name : Text) (arms_name : Option Text) (value : Image) (id : ℕ)
    (owner : Module) (terms : List Term) (owned : module_of id value.table ≡ Some owner)
    (image_is : Holds (Some map) (need name (image_with id)) (an_image value))
    (terms_are : Holds (Some map) (need terms_name terms_file) (the_terms terms)) where
  abbrev JudgedComes : Type 0
  JudgedComes = (arms : List Arm) × Comes (Some map) (judged_command judging name id terms_name arms_name)
      (on_data (not_data owner terms) (judging terms owner (section owner.text value.memory) arms))

  with_terms : (helds : List Held)
      → HoldAll (Some map) (need name (image_with id) ∷ told_needs terms_name arms_name) helds → JudgedComes
  with_terms [] h = absurd h
  with_terms (first ∷ []) h = absurd h.1
  with_terms (first ∷ second ∷ more) h =
      let outcome : List Arm → Outcome = λ arms. judged_by judging value terms arms (module_of id value.table) in
      let own = armed (Some map) outcome arms_name more h.1.1 in (
        own.0,
        record {
          helds = an_image value ∷ the_terms terms ∷ more;
          hold = (image_is, (terms_are, h.1.1));
          is = own.1 ∙ ap (judged_by judging value terms own.0) owned;
        },
      )

  -- an answer with status 0 is one to these terms, with some certificates
  pub judged_done : (answer : Answer) → answer.status ≡ Done
      → IsAnswer (Some map) (judged_command judging name id terms_name arms_name) answer
      → (arms : List Arm) × Answers (judging terms owner (section owner.text value.memory) arms) answer
  judged_done answer status a =
      let found = with_terms a.comes.helds a.comes.hold in
      let judged = judging terms owner (section owner.text value.memory) found.0 in
      let command = judged_command judging name id terms_name arms_name in
      let outcome = on_data (not_data owner terms) judged in
      let one = one_outcome map command a.outcome outcome a.comes found.1 in
      let told = subst (λ o. Answers o answer) one a.is in
      (found.0, done_told (not_data owner terms) judged answer told status)
