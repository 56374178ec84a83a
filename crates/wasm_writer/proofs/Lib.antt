mod Leb
mod Best
mod BestNumbers
mod BestSigned
mod BestParts
mod BestItems
mod BestCode
mod BestModule
