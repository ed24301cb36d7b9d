-- What bytes of each kind hold: one thing of its own, or there is a fault.
use Rattle.std.proofs.Common.{true, false, is_some, ◌≡◌, ℕ, ◌≤◌, List, length, Option, Some, None, Result, Ok, Err, refl, sym, ◌∙◌, ap, ap₂, subst, inl, inr, ◌⊎◌, ⊎_elim}
use Rattle.mod_layout.specs.declared.Module.{Module}
use Rattle.mod_layout.specs.Table.{module_of}
use Rattle.image_text.specs.declared.ImageFault.{ImageFault}
use Rattle.image_text.specs.Image.{Image}
use Rattle.image_text.specs.Refusal.{refusal_of}
use Rattle.image_text.proofs.OneText.{text_has_no_refusal, images_of_one_text}
use Rattle.image_text.proofs.EveryText.{every_text}
use Rattle.schedule_file.specs.declared.Entry.{Entry}
use Rattle.schedule_file.specs.declared.ScheduleFault.{ScheduleFault}
use Rattle.schedule_file.specs.Reading.{schedule_of}
use Rattle.vendor_tool.specs.declared.Challenge.{Challenge}
use Rattle.vendor_tool.specs.declared.ChallengeFault.{ChallengeFault}
use Rattle.vendor_tool.specs.declared.TraceFault.{TraceFault}
use Rattle.vendor_tool.specs.ChallengeText.{challenges_of}
use Rattle.vendor_tool.specs.Replies.{replies_of}
use Rattle.arm_balance.specs.declared.Arm.{Arm}
use Rattle.arm_balance.specs.declared.ArmsFault.{ArmsFault}
use Rattle.arm_balance.specs.Certificates.{arms_of}
use Rattle.terms_file.specs.declared.Term.{Term}
use Rattle.terms_file.specs.declared.TermsFault.{TermsFault}
use Rattle.terms_file.specs.Terms.{terms_of}
use Rattle.layout_file.specs.declared.fault.LayoutFault.{LayoutFault}
use Rattle.layout_file.specs.Layout.{LayoutOf}
use Rattle.layout_file.specs.Values.{LayoutValue}
use Rattle.elf_objects.specs.declared.fault.ElfFault.{ElfFault}
use Rattle.elf_objects.specs.declared.object.SectionHead.{SectionHead}
use Rattle.elf_objects.specs.declared.object.Symbol.{Symbol}
use Rattle.elf_objects.specs.declared.object.Relocation.{Relocation}
use Rattle.elf_objects.specs.Names.{sections_of}
use Rattle.elf_objects.specs.Object.{ObjectValue, elf_fault_of}
use Rattle.elf_objects.specs.Relocation.{relocations_of}
use Rattle.elf_objects.specs.Symbol.{symbols_of}
use Rattle.written_machine.specs.declared.ScriptLine.{ScriptLine}
use Rattle.script_file.specs.declared.ScriptFault.{ScriptFault}
use Rattle.script_file.specs.Reading.{script_of}
use Rattle.cli_files.specs.declared.answers.FileFault.{FileFault}
use Rattle.cli_files.specs.declared.answers.FileFault.TheVariants as fault
use Rattle.cli_files.specs.Files.{Kind, image_file, image_with, schedule_file, challenges_file, trace_file, arms_file, terms_file, layout_file, object_file, script_file, Held, an_image, a_schedule, the_challenges, the_replies, certificates, the_terms, a_layout, an_object, a_script, IsTextOf, IsHeld, HasNoModule, IsRefused, most_bytes, HasFault, source_file, a_unit}
use Rattle.asm_text.specs.declared.unit.AsmFault.{AsmFault}
use Rattle.asm_text.specs.Assembly.{assembled}
use Rattle.asm_text.specs.Parts.{UnitValue}

-- The content of a kind

abbrev Content : Kind → Type 0
Content image_file = Image
Content (image_with id) = Image
Content schedule_file = List Entry
Content challenges_file = List Challenge
Content trace_file = List ℕ
Content arms_file = List Arm
Content terms_file = List Term
Content layout_file = LayoutValue
Content object_file = ObjectValue
Content script_file = List ScriptLine
Content source_file = UnitValue

abbrev as_held : (kind : Kind) → Content kind → Held
as_held image_file value = an_image value
as_held (image_with id) value = an_image value
as_held schedule_file entries = a_schedule entries
as_held challenges_file list = the_challenges list
as_held trace_file sent = the_replies sent
as_held arms_file arms = certificates arms
as_held terms_file terms = the_terms terms
as_held layout_file layout = a_layout layout
as_held object_file object = an_object object
as_held script_file script = a_script script
as_held source_file unit = a_unit unit

-- bytes of a kind hold nothing but its content
own_content : (kind : Kind) (bytes : List ℕ) (held : Held) → IsHeld kind bytes held → (content : Content kind) × (held ≡ as_held kind content)
own_content image_file bytes (an_image value) h = (value, refl)
own_content (image_with id) bytes (an_image value) h = (value, refl)
own_content schedule_file bytes (a_schedule entries) h = (entries, refl)
own_content challenges_file bytes (the_challenges list) h = (list, refl)
own_content trace_file bytes (the_replies sent) h = (sent, refl)
own_content arms_file bytes (certificates arms) h = (arms, refl)
own_content terms_file bytes (the_terms terms) h = (terms, refl)
own_content layout_file bytes (a_layout layout) h = (layout, refl)
own_content object_file bytes (an_object object) h = (object, refl)
own_content script_file bytes (a_script script) h = (script, refl)
own_content source_file bytes (a_unit unit) h = (unit, refl)
own_content _ bytes _ h = absurd h

-- One thing

one_image : (bytes : List ℕ) (a b : Image) → IsTextOf bytes a → IsTextOf bytes b → a ≡ b
one_image bytes a b r s = images_of_one_text a b r.image s.image (sym r.text ∙ s.text)

one_object : (bytes : List ℕ) (a b : ObjectValue) → IsHeld object_file bytes (an_object a) → IsHeld object_file bytes (an_object b) → a ≡ b
one_object bytes a b r s =
    let file : a.file ≡ b.file = r.1 ∙ sym s.1 in
    let sections : a.sections ≡ b.sections = r.0.sections ∙ ap sections_of file ∙ sym s.0.sections in
    let symbols : a.symbols ≡ b.symbols = r.0.symbols ∙ ap symbols_of file ∙ sym s.0.symbols in
    let relocations : a.relocations ≡ b.relocations = r.0.relocations ∙ ap relocations_of file ∙ sym s.0.relocations in
    let made : List ℕ → List SectionHead → List Symbol → List Relocation → ObjectValue = λ f h n t. record { file = f; sections = h; symbols = n; relocations = t } in
    ap₂ (λ (f : List ℕ) (h : List SectionHead). made f h a.symbols a.relocations) file sections ∙ ap₂ (made b.file b.sections) symbols relocations

one_content : (kind : Kind) (bytes : List ℕ) (a b : Content kind) → IsHeld kind bytes (as_held kind a) → IsHeld kind bytes (as_held kind b) → as_held kind a ≡ as_held kind b
one_content image_file bytes a b r s = ap an_image (one_image bytes a b r s)
one_content (image_with id) bytes a b r s = ap an_image (one_image bytes a b r.0 s.0)
one_content schedule_file bytes a b r s = let same = sym r ∙ s in cc
one_content challenges_file bytes a b r s = let same = sym r ∙ s in cc
one_content trace_file bytes a b r s = let same = sym r ∙ s in cc
one_content arms_file bytes a b r s = let same = sym r ∙ s in cc
one_content terms_file bytes a b r s = let same = sym r ∙ s in cc
one_content layout_file bytes a b r s = let same = sym r ∙ s in cc
one_content object_file bytes a b r s = ap an_object (one_object bytes a b r s)
one_content script_file bytes a b r s = let same = sym r ∙ s in cc
one_content source_file bytes a b r s = let same = sym r ∙ s in cc

pub one_held : (kind : Kind) (bytes : List ℕ) (a b : Held) → IsHeld kind bytes a → IsHeld kind bytes b → a ≡ b
one_held kind bytes a b r s =
    let p = own_content kind bytes a r in
    let q = own_content kind bytes b s in
    p.1 ∙ one_content kind bytes p.0 q.0 (subst (λ h. IsHeld kind bytes h) p.1 r) (subst (λ h. IsHeld kind bytes h) q.1 s) ∙ sym q.1

-- No fault

image_accepted : (bytes : List ℕ) (value : Image) (refusal : ImageFault) → IsTextOf bytes value → refusal_of bytes ≡ Some refusal → ⊥
image_accepted bytes value refusal r h = let none = ap refusal_of r.text ∙ text_has_no_refusal value r.image in cc

has_module : (bytes : List ℕ) (value : Image) (id : ℕ) → IsTextOf bytes value → is_some (module_of id value.table) ≡ true → HasNoModule bytes id → ⊥
has_module bytes value id r some h =
    let same : value ≡ h.value = one_image bytes value h.value r h.is in
    let none : module_of id value.table ≡ None = ap (λ (i : Image). module_of id i.table) same ∙ h.none in
    let bad : false ≡ true = sym (ap is_some none) ∙ some in
    cc

not_refused : (kind : Kind) (bytes : List ℕ) (content : Content kind) (f : FileFault) → IsHeld kind bytes (as_held kind content) → IsRefused kind bytes f → ⊥
not_refused image_file bytes value (fault.Image refusal) r h = image_accepted bytes value refusal r h
not_refused (image_with id) bytes value (fault.Image refusal) r h = image_accepted bytes value refusal r.0 h
not_refused (image_with id) bytes value (fault.NoModule other) r h = has_module bytes value id r.0 r.1 h.1
not_refused schedule_file bytes entries (fault.Schedule refusal) r h = let clash = sym r ∙ h in cc
not_refused challenges_file bytes list (fault.Challenges refusal) r h = let clash = sym r ∙ h in cc
not_refused trace_file bytes sent (fault.Trace refusal) r h = let clash = sym r ∙ h in cc
not_refused arms_file bytes arms (fault.Arms refusal) r h = let clash = sym r ∙ h in cc
not_refused terms_file bytes terms (fault.Terms refusal) r h = let clash = sym r ∙ h in cc
not_refused layout_file bytes layout (fault.Layout refusal) r h = let clash = sym r ∙ h in cc
not_refused object_file bytes object (fault.Object refusal) r h = let clash = sym r.0.sound ∙ ap elf_fault_of r.1 ∙ h in cc
not_refused script_file bytes script (fault.Script refusal) r h = let clash = sym r ∙ h in cc
not_refused source_file bytes unit (fault.Source refusal) r h = let clash = sym r ∙ h in cc
not_refused _ bytes _ _ r h = h

-- bytes that hold something are not refused
pub accepted : (kind : Kind) (bytes : List ℕ) (held : Held) (f : FileFault) → IsHeld kind bytes held → IsRefused kind bytes f → ⊥
accepted kind bytes held f r h =
    let p = own_content kind bytes held r in
    not_refused kind bytes p.0 f (subst (λ x. IsHeld kind bytes x) p.1 r) h

-- Either

-- bytes that are not too long hold something, or have a fault
abbrev pub Examined : Kind → List ℕ → Type 0
Examined kind bytes = ((held : Held) × IsHeld kind bytes held) ⊎ ((f : FileFault) × (length bytes ≤ most_bytes → HasFault kind (Some bytes) f))

image_examined : (bytes : List ℕ) (o : Option ImageFault) → refusal_of bytes ≡ o → ((value : Image) × IsTextOf bytes value) ⊎ ((refusal : ImageFault) × (refusal_of bytes ≡ Some refusal))
image_examined bytes None e = let t = every_text bytes e in inl (t.0, record { image = t.1; text = t.2 })
image_examined bytes (Some refusal) e = inr (refusal, e)

module_examined : (id : ℕ) (bytes : List ℕ) (value : Image) → IsTextOf bytes value → (o : Option Module) → module_of id value.table ≡ o → Examined (image_with id) bytes
module_examined id bytes value r (Some m) e = inl (an_image value, (r, ap is_some e))
module_examined id bytes value r None e = inr (fault.NoModule id, λ short. (short, (refl, record { value = value; is = r; none = e })))

schedule_examined : (bytes : List ℕ) (r : Result (List Entry) ScheduleFault) → schedule_of bytes ≡ r → Examined schedule_file bytes
schedule_examined bytes (Ok entries) e = inl (a_schedule entries, e)
schedule_examined bytes (Err refusal) e = inr (fault.Schedule refusal, λ short. (short, e))

challenges_examined : (bytes : List ℕ) (r : Result (List Challenge) ChallengeFault) → challenges_of bytes ≡ r → Examined challenges_file bytes
challenges_examined bytes (Ok list) e = inl (the_challenges list, e)
challenges_examined bytes (Err refusal) e = inr (fault.Challenges refusal, λ short. (short, e))

trace_examined : (bytes : List ℕ) (r : Result (List ℕ) TraceFault) → replies_of bytes ≡ r → Examined trace_file bytes
trace_examined bytes (Ok sent) e = inl (the_replies sent, e)
trace_examined bytes (Err refusal) e = inr (fault.Trace refusal, λ short. (short, e))

arms_examined : (bytes : List ℕ) (r : Result (List Arm) ArmsFault) → arms_of bytes ≡ r → Examined arms_file bytes
arms_examined bytes (Ok arms) e = inl (certificates arms, e)
arms_examined bytes (Err refusal) e = inr (fault.Arms refusal, λ short. (short, e))

terms_examined : (bytes : List ℕ) (r : Result (List Term) TermsFault) → terms_of bytes ≡ r → Examined terms_file bytes
terms_examined bytes (Ok terms) e = inl (the_terms terms, e)
terms_examined bytes (Err refusal) e = inr (fault.Terms refusal, λ short. (short, e))

layout_examined : (bytes : List ℕ) (r : Result LayoutValue LayoutFault) → LayoutOf bytes ≡ r → Examined layout_file bytes
layout_examined bytes (Ok layout) e = inl (a_layout layout, e)
layout_examined bytes (Err refusal) e = inr (fault.Layout refusal, λ short. (short, e))

object_examined : (bytes : List ℕ) (o : Option ElfFault) → elf_fault_of bytes ≡ o → Examined object_file bytes
object_examined bytes None e =
    let object : ObjectValue = record { file = bytes; sections = sections_of bytes; symbols = symbols_of bytes; relocations = relocations_of bytes } in
    inl (an_object object, (record { sound = e; sections = refl; symbols = refl; relocations = refl }, refl))
object_examined bytes (Some refusal) e = inr (fault.Object refusal, λ short. (short, e))

script_examined : (bytes : List ℕ) (r : Result (List ScriptLine) ScriptFault) → script_of bytes ≡ r → Examined script_file bytes
script_examined bytes (Ok script) e = inl (a_script script, e)
script_examined bytes (Err refusal) e = inr (fault.Script refusal, λ short. (short, e))

source_examined : (bytes : List ℕ) (r : Result UnitValue AsmFault) → assembled bytes ≡ r → Examined source_file bytes
source_examined bytes (Ok unit) e = inl (a_unit unit, e)
source_examined bytes (Err refusal) e = inr (fault.Source refusal, λ short. (short, e))

pub examined : (kind : Kind) (bytes : List ℕ) → Examined kind bytes
examined image_file bytes = ⊎_elim (λ v. inl (an_image v.0, v.1)) (λ f. inr (fault.Image f.0, λ short. (short, f.1))) (image_examined bytes (refusal_of bytes) refl)
examined (image_with id) bytes =
    ⊎_elim (λ v. module_examined id bytes v.0 v.1 (module_of id v.0.table) refl) (λ f. inr (fault.Image f.0, λ short. (short, f.1))) (image_examined bytes (refusal_of bytes) refl)
examined schedule_file bytes = schedule_examined bytes (schedule_of bytes) refl
examined challenges_file bytes = challenges_examined bytes (challenges_of bytes) refl
examined trace_file bytes = trace_examined bytes (replies_of bytes) refl
examined arms_file bytes = arms_examined bytes (arms_of bytes) refl
examined terms_file bytes = terms_examined bytes (terms_of bytes) refl
examined layout_file bytes = layout_examined bytes (LayoutOf bytes) refl
examined object_file bytes = object_examined bytes (elf_fault_of bytes) refl
examined script_file bytes = script_examined bytes (script_of bytes) refl
examined source_file bytes = source_examined bytes (assembled bytes) refl
