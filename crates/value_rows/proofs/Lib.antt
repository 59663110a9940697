-- What is kept while definitions are read.
mod DefinitionLaws
