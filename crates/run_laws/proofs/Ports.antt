-- Reads and writes that stay out of a section do not see what stands there.
use Rattle.std.proofs.Common.{◌≡◌, ℕ, ◌+◌, ◌/◌, ◌%◌, List, [], ◌∷◌, take, drop, refl, ap, ◌∙◌, Bool, true, false, nat_lt}
use Rattle.pc_access.specs.declared.Access.{Access}
use Rattle.sm_words.specs.Words.{cleared}
use Rattle.sm_words.specs.declared.width.Width.{Width}
use Rattle.sm_words.specs.declared.width.Width.TheVariants.{Byte, Word}
use Rattle.written_machine.specs.Ports.{Port, Got, read_in, read_byte, write_in, write_byte, read_width, write_width, take_reads, put_writes}
use Rattle.run_laws.proofs.Bytes.{Out, get_cleared, set_cleared, part_set_out}
use Rattle.run_laws.proofs.Each.{Each}

-- all bytes of an access are out of the section
abbrev pub OutBy : Width → ℕ → ℕ → ℕ → Type 0
OutBy Byte lo n a = Out lo n a
OutBy Word lo n a = Out lo n a × Out lo n (a + 1)

abbrev pub OutAccess : ℕ → ℕ → Access → Type 0
OutAccess lo n x = OutBy x.width lo n x.addr

abbrev pub veil_port : ℕ → ℕ → Port → Port
veil_port lo n p = record p { memory = cleared lo n p.memory }

abbrev pub veil_got : {A : Type 0} → ℕ → ℕ → Got A → Got A
veil_got lo n g = record g { port = veil_port lo n g.port }

module _ (lo n : ℕ) where
  read_in_veiled : (b : Bool) (p : Port) (a : ℕ) → Out lo n a → read_in b (veil_port lo n p) a ≡ veil_got lo n (read_in b p a)
  read_in_veiled true p a out = refl
  read_in_veiled false p a out = ap (λ v. let g : Got ℕ = record { port = veil_port lo n p; value = v } in g) (get_cleared lo n p.memory a out)

  read_width_veiled : (w : Width) (p : Port) (a : ℕ) → OutBy w lo n a → read_width w (veil_port lo n p) a ≡ veil_got lo n (read_width w p a)
  read_width_veiled Byte p a out = read_in_veiled (nat_lt a 512) p a out
  read_width_veiled Word p a out =
      rw (read_in_veiled (nat_lt a 512) p a out.0, read_in_veiled (nat_lt (a + 1) 512) (read_byte p a).port (a + 1) out.1) refl

  pub take_reads_veiled : (xs : List Access) (p : Port) → Each (OutAccess lo n) xs → take_reads (veil_port lo n p) xs ≡ veil_got lo n (take_reads p xs)
  take_reads_veiled [] p out = refl
  take_reads_veiled (x ∷ xs) p out =
      rw (read_width_veiled x.width p x.addr out.0, take_reads_veiled xs (read_width x.width p x.addr).port out.1) refl

  write_in_veiled : (b : Bool) (p : Port) (a v : ℕ) → Out lo n a → write_in b (veil_port lo n p) a v ≡ veil_port lo n (write_in b p a v)
  write_in_veiled true p a v out = refl
  write_in_veiled false p a v out = ap (λ m. let q : Port = record p { memory = m } in q) (set_cleared lo n p.memory a v out)

  write_width_veiled : (w : Width) (p : Port) (a v : ℕ) → OutBy w lo n a → write_width w (veil_port lo n p) a v ≡ veil_port lo n (write_width w p a v)
  write_width_veiled Byte p a v out = write_in_veiled (nat_lt a 512) p a (v % 256) out
  write_width_veiled Word p a v out =
      ap (λ q. write_byte q (a + 1) (v / 256 % 256)) (write_in_veiled (nat_lt a 512) p a (v % 256) out.0)
      ∙ write_in_veiled (nat_lt (a + 1) 512) (write_byte p a (v % 256)) (a + 1) (v / 256 % 256) out.1

  pub put_writes_veiled : (xs : List Access) (p : Port) (vs : List ℕ) → Each (OutAccess lo n) xs → put_writes (veil_port lo n p) xs vs ≡ veil_port lo n (put_writes p xs vs)
  put_writes_veiled (x ∷ xs) p (v ∷ vs) out =
      ap (λ q. put_writes q xs vs) (write_width_veiled x.width p x.addr v out.0) ∙ put_writes_veiled xs (write_width x.width p x.addr v) vs out.1
  put_writes_veiled _ p _ out = refl

  -- the section's own bytes stay
  write_in_part : (b : Bool) (p : Port) (a v : ℕ) → Out lo n a → take n (drop lo (write_in b p a v).memory) ≡ take n (drop lo p.memory)
  write_in_part true p a v out = refl
  write_in_part false p a v out = part_set_out lo n p.memory a v out

  write_width_part : (w : Width) (p : Port) (a v : ℕ) → OutBy w lo n a → take n (drop lo (write_width w p a v).memory) ≡ take n (drop lo p.memory)
  write_width_part Byte p a v out = write_in_part (nat_lt a 512) p a (v % 256) out
  write_width_part Word p a v out =
      write_in_part (nat_lt (a + 1) 512) (write_byte p a (v % 256)) (a + 1) (v / 256 % 256) out.1 ∙ write_in_part (nat_lt a 512) p a (v % 256) out.0

  pub put_writes_part : (xs : List Access) (p : Port) (vs : List ℕ) → Each (OutAccess lo n) xs → take n (drop lo (put_writes p xs vs).memory) ≡ take n (drop lo p.memory)
  put_writes_part (x ∷ xs) p (v ∷ vs) out =
      put_writes_part xs (write_width x.width p x.addr v) vs out.1 ∙ write_width_part x.width p x.addr v out.0
  put_writes_part _ p _ out = refl

  -- reads leave the memory as it is
  read_in_memory : (b : Bool) (p : Port) (a : ℕ) → (read_in b p a).port.memory ≡ p.memory
  read_in_memory true p a = refl
  read_in_memory false p a = refl

  read_width_memory : (w : Width) (p : Port) (a : ℕ) → (read_width w p a).port.memory ≡ p.memory
  read_width_memory Byte p a = read_in_memory (nat_lt a 512) p a
  read_width_memory Word p a = read_in_memory (nat_lt (a + 1) 512) (read_byte p a).port (a + 1) ∙ read_in_memory (nat_lt a 512) p a

  pub take_reads_memory : (xs : List Access) (p : Port) → (take_reads p xs).port.memory ≡ p.memory
  take_reads_memory [] p = refl
  take_reads_memory (x ∷ xs) p = take_reads_memory xs (read_width x.width p x.addr).port ∙ read_width_memory x.width p x.addr
