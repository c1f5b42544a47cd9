-- The ending of a run without where its texts lie in memory.
use Rattle.command_endings.specs.Endings.{EndOfRun, usage, no_words, answered, served, made, counted}
use Rattle.command_endings.specs.declared.ending.Ending.TheVariants as endings
use Rattle.command_endings.specs.declared.ending.Ending as declared_ending

abbrev pub ending_view : declared_ending.Ending → EndOfRun
ending_view endings.Usage = usage
ending_view endings.NoWords = no_words
ending_view (endings.Answered data_name query_name answer) = answered data_name.now query_name.now answer
ending_view (endings.Served name service) = served name.now service
ending_view (endings.Made written) = made written
ending_view (endings.Counted query_name result) = counted query_name.now result
