use Rattle.udf_space.proofs.Encoding.{encoded_back, encoded_placed, encoded_version, encoded_serial, encoded_covers, encoded_rest, encoded_length, encoded_crc, encoded_reserved}
use Rattle.udf_space.proofs.laws.encode_law.Goals as goal

pub returns-clause-back : goal.returns-clause-back
returns-clause-back c = encoded_back

pub returns-clause-placed : goal.returns-clause-placed
returns-clause-placed c = encoded_placed

pub returns-clause-version : goal.returns-clause-version
returns-clause-version c = encoded_version

pub returns-clause-serial : goal.returns-clause-serial
returns-clause-serial c = encoded_serial

pub returns-clause-covers : goal.returns-clause-covers
returns-clause-covers c = encoded_covers

pub returns-clause-rest : goal.returns-clause-rest
returns-clause-rest c = encoded_rest

pub returns-clause-same_length : goal.returns-clause-same_length
returns-clause-same_length c = encoded_length

pub returns-clause-crc : goal.returns-clause-crc
returns-clause-crc c = encoded_crc

pub returns-clause-reserved : goal.returns-clause-reserved
returns-clause-reserved c = encoded_reserved
