use Rattle.stair_model.proofs.EncodingLaws.{encoding_exists, encoding_unique, codewords_agree, encoded_same}
use Rattle.stair_model.proofs.encoding.encoding_laws.Goals as goal

pub returns : goal.returns
returns c = record {
  exists = encoding_exists;
  unique = encoding_unique;
  agrees = codewords_agree;
  same = encoded_same;
}
