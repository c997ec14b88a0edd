mod ArrivalCalls
mod ByHandle
mod Descriptions
mod OnHandle
