-- What clap makes of a command whose one argument takes from `least` to `most` words.
use Rattle.std.proofs.Common.{◌≡◌, ℕ, ◌<◌, ◌≤◌, ◌==◌, ◌&&◌, ◌||◌, nat_le, nat_lt, not, Bool, true, false, List, [], ◌∷◌, ◌++◌, length, drop, map, Option, Some, None, option_map, refl, ap, ◌∙◌, sym, subst, arith}
use Rattle.std.specs.Str.{chars, IsUtf8}
use Rattle.std.specs.Prelude.{encode_utf8_all}
use Rattle.std.proofs.lemmas.Str.{encodes-chars, IsUtf8-drop, IsCharBoundary-after_ascii, IsUtf8-string_bytes}
use Rattle.std.proofs.lemmas.Bool.{eqb-true}
use Rattle.std.proofs.lemmas.Bool.Decides.{nat_tests}
use Rattle.std.proofs.lemmas.List.{append_assoc, append-nil}
use Rattle.std.specs.Prelude.{fold, String, string_bytes}
use Rattle.std.specs.Option.{IsSomeAnd}
use Rattle.std.specs.declared.alloc.Global.{Global}
use Rattle.clap.specs.Lexer.{long_of, short_of, name_and_value}
use Rattle.clap.specs.Walk.{takes_several, Text, Rule, Held, Walk, Waiting, idle, positional, walked, walk, nothing_held, settled, finished, all_of}
use Rattle.clap.specs.Simple.{Shape, built, is_simple, matches_of, entered}
use Rattle.clap.specs.Faults.{is_simple_and_free, fault_of, walk_fault, turn_fault, flags_fault, settle_fault, defaults_fault, check_fault, entered_fault}
use Rattle.clap.specs.Kinds.{Kinds, IsAmong, or_else, values_kinds, range_kinds}
use Rattle.clap.specs.declared.error.kind.ErrorKind.{ErrorKind}
use Rattle.clap.specs.declared.error.kind.ErrorKind.TheVariants.{UnknownArgument, MissingRequiredArgument, WrongNumberOfValues, TooFewValues, TooManyValues}
use Rattle.clap.specs.declared.builder.value_parser.ValueParser.TheVariants as vp
use Rattle.cli_calls.specs.internal.App.{id, several, app}
use Rattle.cli_calls.specs.Words.{is_end, is_option, values, values_within}

-- the argument as it is built
abbrev pub ready : ℕ → ℕ → Rule
ready least most = record (several least most) { index = Some 1; parser = Some vp.String }

plain_for : (b : Bool) → (not ((b || false) && false || false) && true && true) ≡ true
plain_for true = refl
plain_for false = refl

simple_for : (b : Bool) → (not ((b || false) && false || false) && true) ≡ true
simple_for true = refl
simple_for false = refl

pub is_plain : (name : Text) (least most : ℕ) → is_simple_and_free (app name least most) ≡ true
is_plain name least most = plain_for (takes_several (ready least most))

pub is_simple_app : (name : Text) (least most : ℕ) → is_simple (app name least most) ≡ true
is_simple_app name least most = simple_for (takes_several (ready least most))

-- what a word looks like

abbrev pub Texts : List Text → Type 0
Texts [] = Unit {0}
Texts (w ∷ ws) = IsUtf8 w × Texts ws

some_char : (x : ℕ) (xs : Text) → IsUtf8 (x ∷ xs) → (y : ℕ) × (ys : Text) × (chars (x ∷ xs) ≡ y ∷ ys)
some_char x xs h = by (chars (x ∷ xs)) refl (encodes-chars (x ∷ xs) h)
  where
    by : (cs : List ℕ) → chars (x ∷ xs) ≡ cs → encode_utf8_all (chars (x ∷ xs)) ≡ x ∷ xs → (y : ℕ) × (ys : Text) × (chars (x ∷ xs) ≡ y ∷ ys)
    by [] e all = let bad : [] ≡ x ∷ xs = rw e at all in absurd (cc)
    by (y ∷ ys) e all = (y, ys, e)

after_dash : (xs : Text) → IsUtf8 (45 ∷ xs) → IsUtf8 xs
after_dash xs h = IsUtf8-drop (45 ∷ xs) 1 h (IsCharBoundary-after_ascii (45 ∷ xs) 0 h (omega arith) (omega arith))

-- a word that is no option is none to clap
no_long : (w : Text) → is_end w ≡ false → is_option w ≡ false → long_of w ≡ None
no_long [] e o = refl
no_long (x ∷ []) e o = by (x == 45) refl
  where
    by : (b : Bool) → x == 45 ≡ b → long_of (x ∷ []) ≡ None
    by true q = rw q refl
    by false q = rw q refl
no_long (x ∷ y ∷ ys) e o = by (x == 45) refl
  where
    by : (b : Bool) → x == 45 ≡ b → long_of (x ∷ y ∷ ys) ≡ None
    by true q = let bad : true ≡ false = rw q at o in absurd (cc)
    by false q = rw q refl

no_short : (w : Text) → is_end w ≡ false → is_option w ≡ false → short_of w ≡ None
no_short [] e o = refl
no_short (x ∷ []) e o = by (x == 45) refl
  where
    by : (b : Bool) → x == 45 ≡ b → short_of (x ∷ []) ≡ None
    by true q = rw q refl
    by false q = rw q refl
no_short (x ∷ y ∷ ys) e o = by (x == 45) refl
  where
    by : (b : Bool) → x == 45 ≡ b → short_of (x ∷ y ∷ ys) ≡ None
    by true q = let bad : true ≡ false = rw q at o in absurd (cc)
    by false q = rw q refl

-- the walk

abbrev pub pend : List Text → Option (Text × List Text)
pend [] = None
pend (v ∷ vs) = Some (id, v ∷ vs)

-- what takes the next word, and the place of the argument that it goes to; there is none past one that takes one word
abbrev pub goes_on : List Text → Bool → Waiting × ℕ
goes_on [] many = (idle, 1)
goes_on (v ∷ vs) true = (positional, 1)
goes_on (v ∷ vs) false = (idle, 2)

abbrev pub keeps : List Text → Held
keeps vs = record { rows = []; pending = pend vs; skip = 0 }

-- where the walk stands after these values
abbrev pub stand : Bool → List Text → Bool → Walk
stand many vs t = record { held = keeps vs; waiting = (goes_on vs many).0; position = (goes_on vs many).1; is_trailing = t; stopped = None }

-- the values after one more word, and what is wrong with it
abbrev pub added : List Text → Text → Bool → List Text
added [] w many = w ∷ []
added (v ∷ vs) w true = (v ∷ vs) ++ w ∷ []
added (v ∷ vs) w false = v ∷ vs

abbrev pub stray : List Text → Bool → Kinds
stray [] many = []
stray (v ∷ vs) true = []
stray (v ∷ vs) false = UnknownArgument ∷ []

-- what is wrong with more values after these
abbrev pub over : Bool → List Text → List Text → Kinds
over many vs [] = []
over many vs (w ∷ more) = or_else (stray vs many) (over many (added vs w many) more)

over-many : (vs more : List Text) → over true vs more ≡ []
over-many vs [] = refl
over-many [] (w ∷ more) = over-many (w ∷ []) more
over-many (v ∷ vs) (w ∷ more) = over-many ((v ∷ vs) ++ w ∷ []) more

module _ (name : Text) (least most : ℕ) where
  abbrev pub rule : List Rule
  rule = ready least most ∷ []

  abbrev pub top : Shape
  top = (built (app name least most)).top

  -- whether it takes several words
  abbrev pub Takes : Bool → Type 0
  Takes many = takes_several (ready least most) ≡ many

  pub trailing-step : (vs : List Text) (many : Bool) → Takes many → (w : Text) → walked rule [] (stand many vs true) w ≡ stand many (added vs w many) true
  unfolding walked
  trailing-step [] true t w = rw t refl
  trailing-step [] false t w = rw t refl
  trailing-step (v ∷ vs) true t w = rw t refl
  trailing-step (v ∷ vs) false t w = refl

  pub trailing-turn : (vs : List Text) (many : Bool) → Takes many → (w : Text) → turn_fault top [] (stand many vs true) w ≡ stray vs many
  trailing-turn [] many t w = refl
  trailing-turn (v ∷ vs) true t w = rw t refl
  trailing-turn (v ∷ vs) false t w = refl

  pub end-step : (vs : List Text) (many : Bool) (w : Text) → is_end w ≡ true → walked rule [] (stand many vs false) w ≡ stand many vs true
  unfolding walked
  end-step [] many w e = rw e refl
  end-step (v ∷ vs) true w e = rw e refl
  end-step (v ∷ vs) false w e = rw e refl

  pub end-turn : (vs : List Text) (many : Bool) (w : Text) → is_end w ≡ true → turn_fault top [] (stand many vs false) w ≡ []
  end-turn [] many w e = rw e refl
  end-turn (v ∷ vs) true w e = rw e refl
  end-turn (v ∷ vs) false w e = rw e refl

  pub plain-step : (vs : List Text) (many : Bool) → Takes many → (w : Text) → is_end w ≡ false → long_of w ≡ None → short_of w ≡ None
      → walked rule [] (stand many vs false) w ≡ stand many (added vs w many) false
  unfolding walked
  plain-step [] true t w e l s = rw (e, l, s, t) refl
  plain-step [] false t w e l s = rw (e, l, s, t) refl
  plain-step (v ∷ vs) true t w e l s = rw (e, l, s, t) refl
  plain-step (v ∷ vs) false t w e l s = rw (e, l, s) refl

  pub plain-turn : (vs : List Text) (many : Bool) → Takes many → (w : Text) → is_end w ≡ false → long_of w ≡ None → short_of w ≡ None
      → turn_fault top [] (stand many vs false) w ≡ stray vs many
  plain-turn [] many t w e l s = rw (e, l, s) refl
  plain-turn (v ∷ vs) true t w e l s = rw (e, l, s, t) refl
  plain-turn (v ∷ vs) false t w e l s = rw (e, l, s) refl

  refused-long : (vs : List Text) (many : Bool) (w : Text) (n : Text) (v : Option Text) → is_end w ≡ false → long_of w ≡ Some (n, v)
      → turn_fault top [] (stand many vs false) w ≡ UnknownArgument ∷ []
  refused-long [] many w n v e l = rw (e, l) refl
  refused-long (x ∷ vs) true w n v e l = rw (e, l) refl
  refused-long (x ∷ vs) false w n v e l = rw (e, l) refl

  refused-short : (vs : List Text) (many : Bool) (w : Text) (x : ℕ) (xs : Text) (y : ℕ) (ys : Text) → is_end w ≡ false → long_of w ≡ None → short_of w ≡ Some (x ∷ xs)
      → chars (x ∷ xs) ≡ y ∷ ys → turn_fault top [] (stand many vs false) w ≡ UnknownArgument ∷ []
  unfolding flags_fault
  refused-short [] many w x xs y ys e l s c = rw (e, l, s, c) refl
  refused-short (v ∷ vs) true w x xs y ys e l s c = rw (e, l, s, c) refl
  refused-short (v ∷ vs) false w x xs y ys e l s c = rw (e, l, s, c) refl

  dash-turn : (vs : List Text) (many : Bool) (y : ℕ) (ys : Text) → IsUtf8 (45 ∷ y ∷ ys) → is_end (45 ∷ y ∷ ys) ≡ false
      → turn_fault top [] (stand many vs false) (45 ∷ y ∷ ys) ≡ UnknownArgument ∷ []
  dash-turn vs many y ys u e = by (y == 45) refl ys e u
    where
      by : (b : Bool) → y == 45 ≡ b → (zs : Text) → is_end (45 ∷ y ∷ zs) ≡ false → IsUtf8 (45 ∷ y ∷ zs)
          → turn_fault top [] (stand many vs false) (45 ∷ y ∷ zs) ≡ UnknownArgument ∷ []
      by true q [] e u = let bad : true ≡ false = rw q at e in absurd (cc)
      by true q (z ∷ zs) e u =
          refused-long vs many (45 ∷ y ∷ z ∷ zs) (name_and_value (z ∷ zs)).0 (name_and_value (z ∷ zs)).1 e (rw q refl)
      by false q zs e u =
          let c = some_char y zs (after_dash (y ∷ zs) u) in
          refused-short vs many (45 ∷ y ∷ zs) y zs c.0 c.1 e (rw q refl) (rw q refl) c.2

  pub option-turn : (vs : List Text) (many : Bool) (w : Text) → IsUtf8 w → is_end w ≡ false → is_option w ≡ true
      → turn_fault top [] (stand many vs false) w ≡ UnknownArgument ∷ []
  option-turn vs many [] u e o = absurd (cc)
  option-turn vs many (x ∷ []) u e o = absurd (cc)
  option-turn vs many (x ∷ y ∷ ys) u e o =
      let P : ℕ → Type 0 = λ n. IsUtf8 (n ∷ y ∷ ys) → is_end (n ∷ y ∷ ys) ≡ false → turn_fault top [] (stand many vs false) (n ∷ y ∷ ys) ≡ UnknownArgument ∷ [] in
      let back : 45 ≡ x = sym (eqb-true x 45 o) in
      subst P back (dash-turn vs many y ys) u e

  -- the values still to come
  abbrev pub rest : Bool → List Text → Option (List Text)
  rest true words = Some words
  rest false words = values words

  abbrev pub refusal : Bool → List Text → Option (List Text) → Kinds
  refusal many vs None = UnknownArgument ∷ []
  refusal many vs (Some more) = over many vs more

  refusal-more : (vs : List Text) (many : Bool) (w : Text) (o : Option (List Text))
      → or_else (stray vs many) (refusal many (added vs w many) o) ≡ refusal many vs (option_map (λ more. w ∷ more) o)
  refusal-more [] many w None = refl
  refusal-more (v ∷ vs) true w None = refl
  refusal-more (v ∷ vs) false w None = refl
  refusal-more vs many w (Some more) = refl

  pub walk-fault : (many : Bool) → Takes many → (t : Bool) (vs words : List Text) → Texts words → walk_fault top [] (stand many vs t) words ≡ refusal many vs (rest t words)
  unfolding walk_fault
  walk-fault many s true vs [] u = refl
  walk-fault many s false vs [] u = refl
  walk-fault many s true vs (w ∷ words) u = rw (trailing-turn vs many s w, trailing-step vs many s w) (ap (λ (k : Kinds). or_else (stray vs many) k) (walk-fault many s true (added vs w many) words u.1))
  walk-fault many s false vs (w ∷ words) u =
      by (is_end w) (is_option w) refl refl (walk-fault many s true vs words u.1) (walk-fault many s false (added vs w many) words u.1)
    where
      by : (e o : Bool) → is_end w ≡ e → is_option w ≡ o → walk_fault top [] (stand many vs true) words ≡ over many vs words
          → walk_fault top [] (stand many (added vs w many) false) words ≡ refusal many (added vs w many) (values words)
          → walk_fault top [] (stand many vs false) (w ∷ words) ≡ refusal many vs (values (w ∷ words))
      by true o p q ended more = rw (p, end-turn vs many w p, end-step vs many w p) ended
      by false true p q ended more = rw (p, q, option-turn vs many w u.0 p q) refl
      by false false p q ended more =
          let l = no_long w p q in
          let short = no_short w p q in
          rw (p, q, plain-turn vs many s w p l short, plain-step vs many s w p l short) (ap (λ (k : Kinds). or_else (stray vs many) k) more ∙ refusal-more vs many w (values words))

  -- what is held at the end, where each value has a place
  abbrev pub Ends : Bool → Option (List Text) → List Text → Held → Type 0
  Ends many None vs h = Unit {0}
  Ends many (Some more) vs h = over many vs more ≡ [] → h ≡ keeps (vs ++ more)

  ends-more : (vs : List Text) (many : Bool) (w : Text) (h : Held) (o : Option (List Text)) → Ends many o (added vs w many) h → Ends many (option_map (λ more. w ∷ more) o) vs h
  ends-more vs many w h None e = tt
  ends-more [] many w h (Some more) e = e
  ends-more (v ∷ vs) true w h (Some more) e = λ placed. e placed ∙ ap keeps (append_assoc (v ∷ vs) (w ∷ []) more)
  ends-more (v ∷ vs) false w h (Some more) e = λ placed. absurd (cc)

  pub walk-end : (many : Bool) → Takes many → (t : Bool) (vs words : List Text) → Ends many (rest t words) vs (fold (walked rule []) (stand many vs t) words).held
  walk-end many s true vs [] = λ placed. rw append-nil refl
  walk-end many s false vs [] = λ placed. rw append-nil refl
  walk-end many s true vs (w ∷ words) =
      subst (λ (x : Walk). Ends many (Some (w ∷ words)) vs (fold (walked rule []) x words).held) (sym (trailing-step vs many s w))
      (ends-more vs many w (fold (walked rule []) (stand many (added vs w many) true) words).held (Some words) (walk-end many s true (added vs w many) words))
  walk-end many s false vs (w ∷ words) =
      by (is_end w) (is_option w) refl refl (walk-end many s true vs words) (walk-end many s false (added vs w many) words)
    where
      by : (e o : Bool) → is_end w ≡ e → is_option w ≡ o → Ends many (Some words) vs (fold (walked rule []) (stand many vs true) words).held
          → Ends many (values words) (added vs w many) (fold (walked rule []) (stand many (added vs w many) false) words).held
          → Ends many (values (w ∷ words)) vs (fold (walked rule []) (stand many vs false) (w ∷ words)).held
      by true o p q ended more =
          rw p (subst (λ (x : Walk). Ends many (Some words) vs (fold (walked rule []) x words).held) (sym (end-step vs many w p)) ended)
      by false true p q ended more = rw (p, q) tt
      by false false p q ended more =
          let l = no_long w p q in
          let short = no_short w p q in
          let to = ends-more vs many w (fold (walked rule []) (stand many (added vs w many) false) words).held (values words) more in
          rw (p, q) (subst (λ (x : Walk). Ends many (option_map (λ others. w ∷ others) (values words)) vs (fold (walked rule []) x words).held) (sym (plain-step vs many s w p l short)) to)

  -- ---- the whole parse

  -- what may fail after the walk, by what is held then
  abbrev pub tail : Held → Kinds
  tail h = or_else (settle_fault top.rules top.args_override_self h)
      (or_else (defaults_fault (settled top.rules h).rows top.rules) (check_fault top (finished top.rules h) false))

  no_entry : (stop : Option (Text × List Text)) → entered (built (app name least most)) stop ≡ None
  no_entry None = refl
  no_entry (Some p) = refl

  no_entered : (stop : Option (Text × List Text)) → entered_fault (built (app name least most)) stop ≡ []
  no_entered None = refl
  no_entered (Some p) = refl

  pub fault-is : (many : Bool) → Takes many → (w : Text) (words : List Text) → Texts words
      → fault_of (app name least most) (w ∷ words) ≡ or_else (refusal many [] (values words)) (tail (fold (walked rule []) (stand many [] false) words).held)
  fault-is many s w words u =
      let stop = (walk rule [] nothing_held words).stopped in
      rw (walk-fault many s false [] words u, no_entry stop, no_entered stop) refl

  string_values : (vs : List Text) → values_kinds false vp.String vs ≡ []
  string_values [] = refl
  string_values (v ∷ vs) = string_values vs

  pub none-tail : tail (keeps []) ≡ MissingRequiredArgument ∷ []
  unfolding defaults_fault
  none-tail = refl

  pub good-tail : (v : Text) (vs : List Text) → range_kinds least most (length (v ∷ vs)) ≡ [] → tail (keeps (v ∷ vs)) ≡ []
  unfolding defaults_fault
  good-tail v vs r = rw (r, string_values vs) refl

  pub bad-tail : (v : Text) (vs : List Text) (k : ErrorKind) → range_kinds least most (length (v ∷ vs)) ≡ k ∷ [] → tail (keeps (v ∷ vs)) ≡ k ∷ []
  unfolding defaults_fault
  bad-tail v vs k r = rw r refl

  pub found : (many : Bool) (w : Text) (words : List Text) (v : Text) (vs : List Text) → (fold (walked rule []) (stand many [] false) words).held ≡ keeps (v ∷ vs)
      → all_of id (matches_of (app name least most) (w ∷ words)) ≡ Some (v ∷ vs)
  found many w words v vs held = rw held refl

range_good : (least most n : ℕ) → 0 < n → least ≤ n → n ≤ most → range_kinds least most n ≡ []
range_good least most n a b c = grind (arith, nat_tests)

range_low : (least most n : ℕ) → 0 < n → least ≤ most → n < least → (k : ErrorKind) × (range_kinds least most n ≡ k ∷ [])
range_low least most n a o b = by (least == most) refl
  where
    by : (e : Bool) → least == most ≡ e → (k : ErrorKind) × (range_kinds least most n ≡ k ∷ [])
    by true e = (WrongNumberOfValues, grind (arith, nat_tests))
    by false e = (TooFewValues, grind (arith, nat_tests))

range_high : (least most n : ℕ) → 0 < n → least ≤ most → most < n → (k : ErrorKind) × (range_kinds least most n ≡ k ∷ [])
range_high least most n a o b = by (least == most) refl
  where
    by : (e : Bool) → least == most ≡ e → (k : ErrorKind) × (range_kinds least most n ≡ k ∷ [])
    by true e = (WrongNumberOfValues, grind (arith, nat_tests))
    by false e = (TooManyValues, grind (arith, nat_tests))

-- what a caller of the parse cites

-- some words are wanted
pub record Wanted (least most : ℕ) : Type 0 where
  pub some : 0 < least
  pub order : least ≤ most

-- values that are no more than may be have each a place
placed : (least most : ℕ) → Wanted least most → (many : Bool) → takes_several (ready least most) ≡ many → (v : Text) (vs : List Text) → length (v ∷ vs) ≤ most → over many [] (v ∷ vs) ≡ []
placed least most h true s v vs le = over-many (v ∷ []) vs
placed least most h false s v [] le = refl
placed least most h false s v (x ∷ vs) le =
    let one : (not (least == most) || nat_lt 1 least) ≡ false = s in
    let two : 2 ≤ most = omega arith in
    let order = h.order in
    absurd (grind (arith, nat_tests))

-- what the parse finds, where it may succeed
abbrev pub Given : Text → ℕ → ℕ → List Text → List Text → Type 0
Given name least most words vs = (values_within least most (drop 1 words) ≡ Some vs) × (all_of id (matches_of (app name least most) words) ≡ Some vs)

-- where no kind of error may come there are values, and where one may come there are none
abbrev pub Decides : Text → ℕ → ℕ → List Text → Kinds → Type 0
Decides name least most words [] = (vs : List Text) × Given name least most words vs
Decides name least most words (k ∷ ks) = values_within least most (drop 1 words) ≡ None

decides : (name : Text) (least most : ℕ) → Wanted least most → (w : Text) (words : List Text) → Texts words
    → Decides name least most (w ∷ words) (fault_of (app name least most) (w ∷ words))
decides name least most h w words u = by (values words) refl (walk-end name least most many refl false [] words)
  where
    many : Bool
    many = takes_several (ready least most)

    held : Held
    held = (fold (walked (rule name least most) []) (stand many [] false) words).held

    whole : fault_of (app name least most) (w ∷ words) ≡ or_else (refusal name least most many [] (values words)) (tail name least most held)
    whole = fault-is name least most many refl w words u

    by : (o : Option (List Text)) → values words ≡ o → Ends name least most many o [] held → Decides name least most (w ∷ words) (fault_of (app name least most) (w ∷ words))
    by None e end =
        let all : fault_of (app name least most) (w ∷ words) ≡ UnknownArgument ∷ [] = whole ∙ rw e refl in
        subst (Decides name least most (w ∷ words)) (sym all) (rw e refl)
    by (Some []) e end =
        let some = h.some in
        let low : nat_le least 0 ≡ false = grind (arith, nat_tests) in
        let all : fault_of (app name least most) (w ∷ words) ≡ MissingRequiredArgument ∷ [] = whole ∙ rw (e, end refl) (none-tail name least most) in
        subst (Decides name least most (w ∷ words)) (sym all) (rw (e, low) refl)
    by (Some (v ∷ vs)) e end = in_range (nat_le least (length (v ∷ vs))) (nat_le (length (v ∷ vs)) most) refl refl
      where
        -- a wrong number of values is refused, by the word that has no place or in the end
        wrong : (k : ErrorKind) → range_kinds least most (length (v ∷ vs)) ≡ k ∷ [] → values_within least most words ≡ None → (o : Kinds) → over many [] (v ∷ vs) ≡ o
            → Decides name least most (w ∷ words) (fault_of (app name least most) (w ∷ words))
        wrong k bad none [] p =
            let all : fault_of (app name least most) (w ∷ words) ≡ k ∷ [] = whole ∙ rw (e, p, end p) (bad-tail name least most v vs k bad) in
            subst (Decides name least most (w ∷ words)) (sym all) none
        wrong k bad none (x ∷ xs) p =
            let all : fault_of (app name least most) (w ∷ words) ≡ x ∷ xs = whole ∙ rw (e, p) refl in
            subst (Decides name least most (w ∷ words)) (sym all) none

        in_range : (a b : Bool) → nat_le least (length (v ∷ vs)) ≡ a → nat_le (length (v ∷ vs)) most ≡ b
            → Decides name least most (w ∷ words) (fault_of (app name least most) (w ∷ words))
        in_range true true p q =
            let good = range_good least most (length (v ∷ vs)) (omega arith) (grind (arith, nat_tests)) (grind (arith, nat_tests)) in
            let room = placed least most h many refl v vs (grind (arith, nat_tests)) in
            let is : held ≡ keeps (v ∷ vs) = end room in
            let all : fault_of (app name least most) (w ∷ words) ≡ [] = whole ∙ rw (e, room, is) (good-tail name least most v vs good) in
            subst (Decides name least most (w ∷ words)) (sym all)
            (v ∷ vs, (rw (e, p, q) refl, found name least most many w words v vs is))
        in_range false b p q =
            let bad = range_low least most (length (v ∷ vs)) (omega arith) h.order (grind (arith, nat_tests)) in
            wrong bad.0 bad.1 (rw (e, p) refl) (over many [] (v ∷ vs)) refl
        in_range true false p q =
            let bad = range_high least most (length (v ∷ vs)) (omega arith) h.order (grind (arith, nat_tests)) in
            wrong bad.0 bad.1 (rw (e, p, q) refl) (over many [] (v ∷ vs)) refl

-- of any words, as clap reads them after the first
pub decides-all : (name : Text) (least most : ℕ) → Wanted least most → (words : List Text) → Texts words
    → Decides name least most words (fault_of (app name least most) words)
decides-all name least most h [] u = decides name least most h [] [] tt
decides-all name least most h (w ∷ words) u = decides name least most h w words u.1

pub texts_of_strings : (words : List (String Global)) → Texts (map string_bytes words)
texts_of_strings [] = tt
texts_of_strings (w ∷ words) = (IsUtf8-string_bytes w, texts_of_strings words)

-- a parse that succeeded
pub decided_ok : (name : Text) (least most : ℕ) (words : List Text) (kinds : Kinds) → Decides name least most words kinds → kinds ≡ [] → (vs : List Text) × Given name least most words vs
decided_ok name least most words [] d e = d
decided_ok name least most words (k ∷ ks) d e = absurd (cc)

-- and one that gave an error that is not for memory
pub decided_err : (name : Text) (least most : ℕ) (words : List Text) (kinds : Kinds) (k : ErrorKind) → Decides name least most words kinds → IsAmong k kinds
    → values_within least most (drop 1 words) ≡ None
decided_err name least most words [] k d a = absurd a
decided_err name least most words (x ∷ ks) k d a = d

pub some_and : {A : Type 0} (o : Option A) (P : A → Type 0) → IsSomeAnd o P → (x : A) × (o ≡ Some x) × P x
some_and None P h = absurd h
some_and (Some x) P h = (x, refl, h)
