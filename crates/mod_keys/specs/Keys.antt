-- The keys that are derived by HMAC, and tags under them.
use Rattle.std.specs.Prelude.{ℕ, List, ◌++◌}
use Rattle.sm_words.specs.Bytes.{word_bytes}
use Rattle.mod_layout.specs.declared.Module.{Module}
use Rattle.mod_keys.specs.Mac.{short_hmac}

-- the key of a vendor's modules on a node
unfoldable pub provider_key : List ℕ → ℕ → List ℕ
provider_key node_key vendor = short_hmac node_key (word_bytes vendor)

-- what the identity of a module has past its text: where its text and its data start and end
abbrev pub identity_tail : Module → List ℕ
identity_tail m = word_bytes m.text.start ++ word_bytes m.text.end ++ word_bytes m.ram.start ++ word_bytes m.ram.end

-- what a module is: its text and its places
abbrev pub identity : Module → List ℕ → List ℕ
identity m text = text ++ identity_tail m

-- the key of a module under the key of its vendor
abbrev pub module_key_from : List ℕ → Module → List ℕ → List ℕ
module_key_from provider m text = short_hmac provider (identity m text)

-- the key of a module on a node
unfoldable pub module_key : List ℕ → Module → List ℕ → List ℕ
module_key node_key m text = module_key_from (provider_key node_key m.vendor) m text

-- a module's tag of a message: the first bytes of its HMAC under the module's key
unfoldable pub tag_of : List ℕ → Module → List ℕ → List ℕ → List ℕ
tag_of node_key m text message = short_hmac (module_key node_key m text) message
