use Rattle.udf_volume.specs.Led.{led_seen}
use Rattle.udf_volume_model.specs.Stated.{volume_information}
use Rattle.udf_volume.proofs.Leads.{some_sector}
use Rattle.udf_volume.proofs.open.information_sector.Goals as goal

pub returns-in-Some : goal.returns-in-Some
returns-in-Some c =
    some_sector (led_seen c.args.led.now) 4 volume_information c.args.led.now.leading.information c.in-Some.index c.sector_at.result
    c.requires.leading.information c.in-Some.is c.sector_at.ensures
