-- The values that the code's types stand for.
use Rattle.std.specs.Prelude.{ℕ, List, map, String, string_bytes, Vec}
use Rattle.std.specs.declared.alloc.Global.{Global}
use Rattle.layout_file.specs.Values.{VectorValue, ModuleValue}
use Rattle.layout_file.specs.declared.parts.VectorName.{VectorName}
use Rattle.layout_file.specs.declared.parts.ModuleSpec.{ModuleSpec}

abbrev pub string_values : Vec (String Global) Global → List (List ℕ)
string_values v = map string_bytes v.items

abbrev pub vector_of : VectorName → VectorValue
vector_of v = record { vector = v.vector; name = string_bytes v.name }

abbrev pub vectors_of : Vec VectorName Global → List VectorValue
vectors_of v = map vector_of v.items

abbrev pub module_value : ModuleSpec → ModuleValue
module_value m = record {
  name = string_bytes m.name;
  vendor = m.vendor;
  text = m.text;
  ram = m.ram;
  stack = m.stack;
  entries = string_values m.entries;
  boot = m.boot;
}

abbrev pub modules_of : Vec ModuleSpec Global → List ModuleValue
modules_of v = map module_value v.items
