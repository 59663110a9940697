pub mod TokensRead
