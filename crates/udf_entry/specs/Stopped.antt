-- The stop of a layer that a stop of reading a list or a content is.
use Rattle.udf_layer.specs.declared.missing.LayerStop.{LayerStop}
use Rattle.udf_layer.specs.declared.missing.LayerStop.TheVariants as stops
use Rattle.udf_entry.specs.declared.stop.ListStop.{ListStop}
use Rattle.udf_entry.specs.declared.stop.ListStop.TheVariants as list

abbrev pub layer_stop : ListStop → LayerStop
layer_stop list.Fault = stops.Fault
layer_stop list.Memory = stops.Memory
