-- The proof of `DefaultWords` (specs/Defaults.antt), by computation. Assumes nothing.
use mathlib.Core.Path.{refl}
use Rattle.refusal.specs.Below.{below}
use Rattle.build_options.specs.Options.{defaults}
use Rattle.single_words.specs.Word.{is_set, text_at}
use Rattle.words.specs.Border.{exceeds, field_faults, name_faults, words_fault}
use Rattle.words.specs.Inputs.{area_of, channel_numbers_of, choices_of, inputs_of_words}
use Rattle.words.specs.Defaults.{default_words, DefaultWords}

pub default_words_lem : DefaultWords
unfolding default_words words_fault field_faults name_faults exceeds below area_of channel_numbers_of choices_of inputs_of_words is_set text_at defaults
default_words_lem pool raw tracks markers comments callers lengths = record {
  no_fault = refl;
  area = refl;
  options = refl;
  property_order_lem = refl;
  info_order_lem = refl;
  local_order_lem = refl;
  local-count = refl;
}
