use Rattle.linker_laws.proofs.EachByte.{section_bytes_law, field_numbers_law, stub_bytes_law, table_words_law, vector_words_law, zero_elsewhere_law}
use Rattle.linker_laws.proofs.each_byte_is_given.Goals as goal

pub returns : goal.returns
returns c = record { sections = section_bytes_law; fields = field_numbers_law; stubs = stub_bytes_law; tables = table_words_law; vectors = vector_words_law; zeros = zero_elsewhere_law }
