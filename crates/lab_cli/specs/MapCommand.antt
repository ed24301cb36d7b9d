-- `map LAYOUT OBJ..`: where everything stands in the image that objects link to.
use Rattle.std.specs.Prelude.{List, Option}
use Rattle.cli_calls.specs.Command.{Command}
use Rattle.cli_calls.specs.Linking.{read_objects}
use Rattle.cli_calls.specs.Words.{Text}
use Rattle.link_map.specs.Map.{map_text}

-- the map, or the refusal of linking
abbrev pub read_map : List Text → Option Command
read_map values = read_objects map_text values
