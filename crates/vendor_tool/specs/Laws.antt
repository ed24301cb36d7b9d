-- The laws of challenges, traces and judgements. Each is what a function of this crate ensures.
use Rattle.std.specs.Prelude.{◌≡◌, ◌↔◌, ℕ, ◌+◌, ◌*◌, ◌^◌, ◌<◌, ◌≤◌, List, [], ◌∷◌, ◌++◌, length, take, drop, Ok}
use Rattle.std.specs.List.{All, flat_map}
use Rattle.mod_layout.specs.declared.Module.{Module}
use Rattle.mod_keys.specs.Keys.{module_key, tag_of}
use Rattle.mod_keys.specs.Mac.{short_hmac}
use Rattle.mod_keys.specs.declared.mac.TheConstants.{TAG_LENGTH}
use Rattle.sm_words.specs.Words.{reg}
use Rattle.texts.specs.Laws.{IsReadExactly}
use Rattle.tracer.specs.declared.EndState.{EndState}
use Rattle.tracer.specs.declared.EndState.TheVariants.{Stopped, Inside, Outside}
use Rattle.tracer.specs.declared.Event.{Event}
use Rattle.tracer.specs.declared.Event.TheVariants.{Out}
use Rattle.tracer.specs.Laws.{IsWord, IsEvent}
use Rattle.tracer.specs.Lines.{event_line, end_line_at}
use Rattle.vendor_tool.specs.declared.Judgement.TheVariants.{Genuine}
use Rattle.vendor_tool.specs.Challenges.{IsChallenge}
use Rattle.vendor_tool.specs.ChallengeText.{challenge_of, challenge_text}
use Rattle.vendor_tool.specs.Replies.{replies_of}
use Rattle.vendor_tool.specs.Report.{judgement}

-- A line is read as a challenge exactly where it is that challenge's text.
abbrev pub ChallengesAreRead : Type 0
ChallengesAreRead = IsReadExactly challenge_of challenge_text IsChallenge

-- ---- traces

-- an event and its cycle
pub record TimedEvent : Type 0 where
  pub cycle : ℕ
  pub event : Event

-- what a machine can tell
abbrev pub IsTold : TimedEvent → Type 0
IsTold e = (e.cycle < 2 ^ 64) × IsEvent e.event

abbrev pub IsEndState : EndState → Type 0
IsEndState Stopped = Unit {0}
IsEndState (Inside id) = IsWord id
IsEndState (Outside core) = (k : ℕ) → IsWord (reg core k)

-- the lines of events
abbrev pub events_text : List TimedEvent → List ℕ
events_text es = flat_map (λ e. event_line e.cycle e.event) es

abbrev pub sent_in : Event → List ℕ
sent_in (Out byte) = byte ∷ []
sent_in _ = []

-- the bytes that events say were sent
abbrev pub sent : List TimedEvent → List ℕ
sent es = flat_map (λ e. sent_in e.event) es

-- A trace is read as the bytes that were sent.
abbrev pub TracesAreRead : Type 0
TracesAreRead = (events : List TimedEvent) (cycles : ℕ) (end : EndState) → All IsTold events → cycles < 2 ^ 64 → IsEndState end
    → replies_of (events_text events ++ end_line_at cycles end) ≡ Ok (sent events)

-- ---- judgements

-- the replies reach past the place of challenge i, where they are these bytes
pub record StandsInPlace (replies : List ℕ) (i : ℕ) (bytes : List ℕ) : Type 0 where
  pub reached : TAG_LENGTH * i + TAG_LENGTH ≤ length replies
  pub bytes_are : take TAG_LENGTH (drop (TAG_LENGTH * i) replies) ≡ bytes

-- A challenge is called genuine exactly where the bytes in its place are the tag of its nonce under the key.
abbrev pub GenuineIsTagged : Type 0
GenuineIsTagged = (key nonce replies : List ℕ) (i : ℕ) → (judgement key nonce replies i ≡ Genuine) ↔ StandsInPlace replies i (short_hmac key nonce)

-- Under the key of a module on a node, that is the module's tag of the nonce.
abbrev pub GenuineIsModules : Type 0
GenuineIsModules = (node_key text nonce replies : List ℕ) (m : Module) (i : ℕ)
    → (judgement (module_key node_key m text) nonce replies i ≡ Genuine) ↔ StandsInPlace replies i (tag_of node_key m text nonce)
